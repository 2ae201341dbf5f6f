-- A text that is not a name is the name of no number.
use Rattle.uefi_boot_variables.specs.declared.variable_names.LoadOptionKind.TheVariants.{Boot}
use Rattle.uefi_uses.proofs.boot_orders.boot_number.Goals as goal

pub returns-in_default-2 : goal.returns-in_default-2
returns-in_default-2 c = λ number small.
    let exact = c.from_text.ensures.exact (record { kind = Boot; number = number }) small in
    (λ e. absurd (cc e), λ is. absurd (cc (c.in_default.is, exact.1 is)))

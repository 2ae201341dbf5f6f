use Rattle.std.proofs.Common.{◌∙◌, sym, subst}
use Rattle.uefi_device_path.specs.LoadOptions.{EntryRefusedFor}
use Rattle.uefi_device_path.specs.Views.{entry_of}
use Rattle.uefi_device_path.proofs.Entries.{entry_once, entry_refused, entry_refused_once}
use Rattle.uefi_device_path.proofs.load_option.LoadOption.from_bytes.Goals as goal

pub returns-in-Ok-clause-only : goal.returns-in-Ok-clause-only
returns-in-Ok-clause-only c = λ entry is_entry e.
    entry_once entry (entry_of c.in-Ok.option) is_entry c.in-Ok.ensures.entry (sym e ∙ c.in-Ok.ensures.ok)

pub returns-in-Err-clause-accepts : goal.returns-in-Err-clause-accepts
returns-in-Err-clause-accepts c =
    let refused = subst (EntryRefusedFor c.args.bytes.now) (sym c.error.ensures) c.in-Err.ensures.refusal in
    (λ ok. absurd (cc ok), λ found. absurd (entry_refused c.args.bytes.now c.error.result refused found.0 found.1 found.2))

pub returns-in-Err-clause-only_refusal : goal.returns-in-Err-clause-only_refusal
returns-in-Err-clause-only_refusal c = λ other again.
    let refused = subst (EntryRefusedFor c.args.bytes.now) (sym c.error.ensures) c.in-Err.ensures.refusal in
    entry_refused_once c.args.bytes.now c.error.result other refused again

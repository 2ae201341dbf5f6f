use Rattle.std.proofs.Common.{◌++◌, ◌∙◌, ap, rules}
use Rattle.uefi_text.proofs.Puts.{puts_five}
use Rattle.uefi_boot_variables.specs.Names.{four_digits}
use Rattle.uefi_boot_variables.proofs.NameTexts.{printed_digits}
use Rattle.uefi_boot_variables.proofs.variable_names.LoadOptionNamePrinted.put.Goals as goal

pub returns : goal.returns
returns g c =
    let digits = printed_digits c.args.self.now.number _ _ _ _ c.digits.result (search rules) c.digits.ensures
    c.from.ensures c.from-2.ensures c.from-3.ensures c.from-4.ensures in
    puts_five g.S.TextSink.puts _ _ _ _ _ _ _ _ _ _ _ _ c.put_str.ensures c.put_char.ensures c.put_char-2.ensures c.put_char-3.ensures c.put_char-4.ensures
    (ap (λ end. c.word.result.now ++ end) digits ∙ ap (λ word. word ++ four_digits c.args.self.now.number) c.word.ensures)

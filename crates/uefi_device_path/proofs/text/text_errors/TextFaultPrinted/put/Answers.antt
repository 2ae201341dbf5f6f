use Rattle.std.proofs.Common.{append_assoc}
use Rattle.uefi_text.proofs.Puts.{puts_four}
use Rattle.uefi_device_path.proofs.text.text_errors.TextFaultPrinted.put.Goals as goal

pub returns : goal.returns
returns g c =
    puts_four _ _ _ _ _ _ _ _ _ _ _ c.put_decimal.ensures c.put_str.ensures c.put.ensures c.put_decimal-2.ensures
    (simp append_assoc)

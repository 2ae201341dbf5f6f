use Rattle.std.proofs.Common.{List, ℕ, subst}
use Rattle.uefi_device_path.specs.StyledReading.{GivesText, path_read}
use Rattle.uefi_device_path.proofs.text.path_reader.read_from.Goals as goal

pub returns : goal.returns
returns g c =
    subst (λ (x : List ℕ). GivesText c.read_styled_path.result (path_read c.args.style x)) c.as_bytes.ensures.value c.read_styled_path.ensures

use Rattle.std.proofs.Common.{arith}
use Rattle.std.proofs.lemmas.List.Elements.{All-from_get_or}
use Rattle.uefi_text.specs.Packed.{IsByte}
use Rattle.uefi_device_path.proofs.text.path_text.most_units.Goals as goal

pub returns-clause-bytes : goal.returns-clause-bytes
returns-clause-bytes c = All-from_get_or IsByte c.args.bytes.now 0 (λ k within. omega (arith, c.type_inv.bytes k))

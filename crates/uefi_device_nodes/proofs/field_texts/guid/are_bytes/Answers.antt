use Rattle.std.proofs.Common.{arith}
use Rattle.std.proofs.lemmas.List.Elements.{All-from_get_or}
use Rattle.uefi_text.specs.Packed.{IsByte}
use Rattle.uefi_device_nodes.proofs.field_texts.guid.are_bytes.Goals as goal

pub returns : goal.returns
returns c = All-from_get_or IsByte c.args.bytes.now 0 (λ k within. omega (arith, c.type_inv.bytes k))

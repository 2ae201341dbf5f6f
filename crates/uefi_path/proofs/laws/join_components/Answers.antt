use Rattle.std.proofs.Common.{arith}
use Rattle.std.proofs.lemmas.List.Elements.{All-weaker}
use Rattle.uefi_path.proofs.Joining.{components_of-pushed, IsFull}
use Rattle.uefi_path.proofs.Validity.{full-open}
use Rattle.uefi_path.proofs.laws.join_components.Goals as goal

pub returns-clause-joined : goal.returns-clause-joined
returns-clause-joined c text part takes plain relative = components_of-pushed text part plain takes relative

pub returns-clause-full : goal.returns-clause-full
returns-clause-full c text some = grind (arith, All-weaker, IsFull, full-open)

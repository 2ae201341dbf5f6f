use Rattle.uefi_node_steps.proofs.Lengths.{texts_are_bounded}
use Rattle.uefi_node_steps.proofs.laws.texts_are_bounded.Goals as goal

pub returns : goal.returns
returns c = texts_are_bounded

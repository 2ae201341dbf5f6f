use Rattle.uefi_node_steps.proofs.Lengths.{node_texts_are_bounded}
use Rattle.uefi_node_steps.proofs.laws.node_texts_are_bounded.Goals as goal

pub returns : goal.returns
returns c = node_texts_are_bounded

use Rattle.uefi_node_reader.proofs.NodeLaws.{text_once}
use Rattle.uefi_node_reader.proofs.node_texts.node_text_once.Goals as goal

pub returns : goal.returns
returns c = text_once

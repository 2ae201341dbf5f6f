use Rattle.uefi_node_reader.proofs.Alike.{calls_alike, zeros_alike, zeros_alike_after_base}
use Rattle.uefi_node_reader.proofs.node_texts.texts_alike.Goals as goal

pub returns : goal.returns
returns c = record { calls = calls_alike; zeros = zeros_alike; zeros_after_base = zeros_alike_after_base }

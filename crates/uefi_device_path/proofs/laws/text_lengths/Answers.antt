use Rattle.uefi_device_path.proofs.TextRoom.{libefivar_node_texts_fit, libefivar_texts_fit, node_texts_fit, path_texts_fit}
use Rattle.uefi_device_path.proofs.laws.text_lengths.Goals as goal

pub returns : goal.returns
returns c = record {
  paths = path_texts_fit;
  libefivar = libefivar_texts_fit;
  nodes = node_texts_fit;
  libefivar_nodes = libefivar_node_texts_fit;
}

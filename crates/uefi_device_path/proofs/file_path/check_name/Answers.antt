use Rattle.std.proofs.Common.{◌≡◌, ◌∙◌, ap, subst, true, arith}
use Rattle.std.proofs.lemmas.Grind.{common_steps}
use Rattle.uefi_text.specs.UnitBytes.{units_of_bytes}
use Rattle.uefi_text.specs.Units.{IsText, without_nul}
use Rattle.uefi_device_nodes.specs.FileNodes.{is_file}
use Rattle.uefi_device_nodes.specs.NodeViews.{node_of}
use Rattle.uefi_device_path.specs.FilePaths.{name_in, with_node}
use Rattle.uefi_device_path.proofs.BufferPaths.{text_after}
use Rattle.uefi_device_path.proofs.file_path.check_name.Goals as goal

pub returns-in-Ok-clause-text : goal.returns-in-Ok-clause-text
returns-in-Ok-clause-text c = λ path is_text.
    let node = node_of c.args.node in
    let file : is_file node ≡ true = grind (arith, common_steps) in
    let name_is : IsText (name_in node.content) =
    subst (λ us. IsText (without_nul us)) (c.in-Ok.ensures.units ∙ ap units_of_bytes c.data.ensures) c.in-Ok.ensures.is_string.1 in
    let all : IsText (with_node path node) = rw file (text_after path (name_in node.content) is_text name_is) in
    all

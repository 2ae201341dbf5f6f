use Rattle.std.proofs.Common.{◌∙◌, ap, sym}
use Rattle.std.proofs.lemmas.Str.{chars-IsAscii}
use Rattle.std.specs.List.{list_all}
use Rattle.std.specs.Str.{IsAscii}
use Rattle.uefi_node_reader.specs.NamedFiles.{is_name_char}
use Rattle.uefi_node_reader.proofs.named_files.has_name_chars.Goals as goal

pub returns-then-is_ascii : goal.returns-then-is_ascii
returns-then-is_ascii c =
    let ascii : IsAscii c.args.text.now = rw c.if-is_ascii.true at c.is_ascii.ensures.cases in
    c.are_name_bytes.ensures ∙ ap (list_all is_name_char) (c.as_bytes.ensures.value ∙ sym (chars-IsAscii c.args.text.now ascii))

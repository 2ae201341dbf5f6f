use Rattle.std.proofs.Common.{ℕ, ◌∷◌, [], List, ap, sym, ◌∙◌}
use Rattle.std.specs.Char.Escape.{encode_utf16}
use Rattle.std.specs.List.{flat_map}
use Rattle.std.specs.Str.{chars}
use Rattle.uefi_text.specs.UnitBytes.{unit_bytes}
use Rattle.uefi_node_reader.specs.CountedBytes.{pushed_byte, pushed_bytes}
use Rattle.uefi_node_reader.proofs.CountedBytes.{pushed_bytes-append}
use Rattle.uefi_node_reader.proofs.NamedFiles.{text_end}
use Rattle.uefi_node_reader.proofs.file_node.push_name.Goals as goal

pub returns : goal.returns
returns g c =
    let name : List ℕ = chars (g.T.Text.bytes c.args.name) in
    let units : List ℕ = unit_bytes (flat_map encode_utf16 name) in
    let first : List ℕ × ℕ = pushed_byte (pushed_byte (c.args.places.now, 0) 92) 0 in
    c.push.ensures
    ∙ ap (λ (s : List ℕ × ℕ). pushed_byte s 0) (c.push-len-3.ensures
    ∙ ap (λ (s : List ℕ × ℕ). pushed_byte s 0) (c.push_utf16-len.ensures
    ∙ ap (λ (s : List ℕ × ℕ). pushed_bytes s units) (c.push-len-2.ensures ∙ ap (λ (s : List ℕ × ℕ). pushed_byte s 0) c.push-len.ensures)))
    ∙ sym (pushed_bytes-append first units (0 ∷ 0 ∷ [])) ∙ ap (pushed_bytes first) (text_end name)

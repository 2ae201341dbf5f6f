use Rattle.std.proofs.Common.{◌≡◌, List, ℕ, sym, ap, ◌∙◌}
use Rattle.std.proofs.lemmas.Iterator.{YieldsList-from_chars}
use Rattle.std.proofs.lemmas.Iterator.Consumers.{YieldsList-end}
use Rattle.std.proofs.lemmas.List.{map-id}
use Rattle.std.specs.Char.Escape.{encode_utf16}
use Rattle.std.specs.List.{flat_map}
use Rattle.std.specs.Str.{chars, IsAscii}
use Rattle.uefi_text.proofs.SunkUnits.{encoded_ascii}
use Rattle.uefi_text.specs.UnitBytes.{unit_bytes}
use Rattle.uefi_node_reader.specs.CountedBytes.{pushed_bytes}
use Rattle.uefi_node_reader.proofs.NamedFiles.{text_more}
use Rattle.uefi_node_reader.proofs.name_data.push_text.Goals as goal

pub returns-then-is_ascii : goal.returns-then-is_ascii
returns-then-is_ascii c =
    let ascii : IsAscii c.args.text.now = rw c.if-is_ascii.true at c.is_ascii.ensures.cases in
    let same = c.as_bytes.ensures.value ∙ sym (encoded_ascii c.args.text.now ascii) in
    c.push_ascii.ensures ∙ ap (λ (x : List ℕ). pushed_bytes (c.args.places.now, c.args.len) (unit_bytes x)) same

pub loop-c-preserved : goal.loop-c-preserved
loop-c-preserved c =
    let start : List ℕ × ℕ = (c.args.places.now, c.args.len) in
    c.push_char-count.ensures ∙ ap (λ (s : List ℕ × ℕ). pushed_bytes s (unit_bytes (encode_utf16 c.in-Some.c))) c.loop-c.invariant
    ∙ text_more start c.loop-c.yielded c.in-Some.c

pub returns : goal.returns
returns c =
    let t = YieldsList-end (YieldsList-from_chars c.args.text.now c.utf8.text cc) c.loop-c.yielded _ c.loop-c.yielded_by _ _ c.in-None.is c.next.ensures.steps in
    let all : c.loop-c.yielded ≡ chars c.args.text.now = sym (map-id c.loop-c.yielded) ∙ t.0 in
    c.loop-c.invariant ∙ ap (λ (x : List ℕ). pushed_bytes (c.args.places.now, c.args.len) (unit_bytes (flat_map encode_utf16 x))) all

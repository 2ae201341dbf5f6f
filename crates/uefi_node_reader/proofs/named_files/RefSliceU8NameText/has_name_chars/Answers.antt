use Rattle.std.proofs.Common.{◌≡◌, Bool, true, false, ◌&&◌, List, ℕ, refl, sym, ap, ◌∙◌}
use Rattle.std.specs.List.{list_all}
use Rattle.std.specs.Str.{IsUtf8, chars, is_utf8}
use Rattle.std.proofs.lemmas.Str.{IsUtf8-from_is_utf8, is_utf8-from_IsUtf8}
use Rattle.uefi_node_reader.specs.NamedFiles.{is_name_char}
use Rattle.uefi_node_reader.proofs.named_files.RefSliceU8NameText.has_name_chars.Goals as goal

-- a text that is no UTF-8
pub not_utf8 : (text : List ℕ) (all : Bool) → ¬ IsUtf8 text → false ≡ is_utf8 text && all
not_utf8 text all other = by (is_utf8 text) refl
  where
    by : (b : Bool) → is_utf8 text ≡ b → false ≡ is_utf8 text && all
    by true e = absurd (other (IsUtf8-from_is_utf8 text e))
    by false e = ap (λ (b : Bool). b && all) (sym e)

pub returns-in-Ok : goal.returns-in-Ok
returns-in-Ok c =
    let same : c.in-Ok.text.now ≡ c.args.self.now = c.in-Ok.ensures.cases.0 in
    let valid : is_utf8 c.args.self.now ≡ true = is_utf8-from_IsUtf8 c.args.self.now c.in-Ok.ensures.cases.1 in
    c.has_name_chars.ensures ∙ (λ i. sym valid i && list_all is_name_char (chars (same i)))

pub returns-in-Err : goal.returns-in-Err
returns-in-Err c = not_utf8 c.args.self.now (list_all is_name_char (chars c.args.self.now)) c.in-Err.ensures.cases.0

-- The NUL stands where the characters that are kept end.
use Rattle.std.proofs.Common.{◌≡◌, ◌∙◌, ◌<◌, [], ◌∷◌, ◌++◌, ap, length, take, arith}
use Rattle.std.proofs.lemmas.List.{length-append, take-append-le, take_more_set}
use Rattle.std.proofs.lemmas.List.Elements.{All-take}
use Rattle.uefi_text.specs.Units.{IsTextUnit, nul_terminated, without_nul}
use Rattle.uefi_text.proofs.Texts.{IsString-made, without_nul-nul_terminated}
use Rattle.uefi_text.proofs.strings.owned_strs.CString16.truncate.Goals as goal

cut : (g : _) (c : goal.After-truncate g) → c.truncate.new.self.items ≡ nul_terminated (take c.args.len (without_nul c.self.inside.units.items))
cut g c =
    let len = c.args.len in
    let items = c.self.inside.units.items in
    let text = without_nul items in
    let count : c.num_chars.result ≡ length text = cc in
    let inside : len < length items = omega (arith, c.if-len-num_chars.true, ap length c.self.invariant.0, length-append text (0 ∷ [])) in
    let kept = ap (take len) c.self.invariant.0 ∙ take-append-le len text (0 ∷ []) (omega arith) in
    rw (c.truncate.ensures.items, take_more_set items len 0 inside) (ap (λ us. us ++ 0 ∷ []) kept)

pub invariant_of-self : goal.invariant_of-self
invariant_of-self g c = IsString-made _ _ (cut g c) (All-take IsTextUnit c.args.len _ c.self.invariant.1)

pub returns-then-len-num_chars : goal.returns-then-len-num_chars
returns-then-len-num_chars g c = ap without_nul (cut g c) ∙ without_nul-nul_terminated _ ∙ ap (take c.args.len) c.self.view_is

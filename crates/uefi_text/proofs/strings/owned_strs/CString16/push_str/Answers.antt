-- The string stands where the NUL stood.
use Rattle.std.proofs.Common.{◌≡◌, ◌<◌, ℕ, List, [], ◌∷◌, ◌++◌, length, set, drop, get_or, append_assoc, ap, refl, arith, sym, ◌∙◌}
use Rattle.std.proofs.lemmas.Grind.{common_steps}
use Rattle.std.proofs.lemmas.List.{length-append, set_at}
use Rattle.std.proofs.lemmas.List.Elements.{All-append}
use Rattle.uefi_text.specs.Units.{IsTextUnit, nul_terminated, without_nul}
use Rattle.uefi_text.specs.Views.{text_of}
use Rattle.uefi_text.proofs.Texts.{IsString-made, without_nul-nul_terminated}
use Rattle.uefi_text.proofs.Values.{IsText-text_of}
use Rattle.uefi_text.proofs.strings.owned_strs.CString16.push_str.Goals as goal

-- units after a string, of which the first takes the place of its NUL
set-after : (text units : List ℕ) → 0 < length units
    → set (nul_terminated text ++ drop 1 units) (length text) (get_or units 0 0) ≡ text ++ units
set-after text [] some = absurd (omega (arith, some))
set-after text (unit ∷ units) some = rw (append_assoc text) (set_at text 0 units unit (length text) refl)

-- where these are a string, too, its text has come after the first
set-string : (text more units : List ℕ) → units ≡ nul_terminated more
    → set (nul_terminated text ++ drop 1 units) (length text) (get_or units 0 0) ≡ nul_terminated (text ++ more)
set-string text more units is =
    let some : 0 < length units = rw is (omega (arith, length-append more (0 ∷ []))) in
    set-after text units some ∙ ap (λ us. text ++ us) is ∙ sym (append_assoc text more (0 ∷ []))

made : (g : _) (c : goal.After-self-1 g) → set c.extend_from_slice.new.self.items c.num_chars-end.result (get_or c.to_u16_slice_with_nul-units.result.now 0 0)
    ≡ nul_terminated (without_nul c.self.inside.units.items ++ text_of c.args.string)
made g c =
    let text = without_nul c.self.inside.units.items in
    let units = c.to_u16_slice_with_nul-units.result.now in
    let grown : c.extend_from_slice.new.self.items ≡ nul_terminated text ++ drop 1 units = grind (arith, common_steps) in
    let end : c.num_chars-end.result ≡ length text = cc in
    rw (grown, end) (set-string text (text_of c.args.string) units c.to_u16_slice_with_nul-units.ensures)

pub invariant_of-self-2 : goal.invariant_of-self-2
invariant_of-self-2 g c = IsString-made _ _ (made g c) (All-append IsTextUnit _ _ c.self.invariant.1 (IsText-text_of c.args.string))

pub returns-clause-ok : goal.returns-clause-ok
returns-clause-ok g c =
    ap without_nul (made g c) ∙ without_nul-nul_terminated _ ∙ ap (λ us. us ++ text_of c.args.string) c.self.view_is

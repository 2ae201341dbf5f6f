-- The block stands where the NUL stood, before a new one.
use Rattle.std.proofs.Common.{◌≡◌, ◌∙◌, ℕ, zero, suc, ◌+◌, List, [], ◌∷◌, ◌++◌, append_assoc, ap, refl, sym, take, drop, length, replicate, arith}
use Rattle.std.proofs.lemmas.Grind.{common_steps}
use Rattle.std.proofs.lemmas.List.{drop-drop, drop_at, take_at}
use Rattle.std.proofs.lemmas.List.Elements.{All-append}
use Rattle.uefi_text.specs.Units.{IsTextUnit, nul_terminated, without_nul}
use Rattle.uefi_text.proofs.Texts.{IsString-made, without_nul-nul_terminated}
use Rattle.uefi_text.proofs.strings.owned_strs.CString16.push_block.Goals as goal

-- of zeros before which there is one more, one is left
last_zero : (n : ℕ) → drop {A = ℕ} n (0 ∷ replicate n 0) ≡ 0 ∷ []
last_zero zero = refl
last_zero (suc n) = last_zero n

-- a block over the NUL of a string and over as many zeros after it, but for the last
over_zeros : (text block items : List ℕ) (end n : ℕ) → end ≡ length text → items ≡ nul_terminated text ++ replicate n 0
    → take end items ++ block ++ drop (end + n) items ≡ nul_terminated (text ++ block)
over_zeros text block items end n at is =
    let all : items ≡ text ++ (0 ∷ replicate n 0) = is ∙ append_assoc text (0 ∷ []) (replicate n 0) in
    let front : take end items ≡ text = ap (take end) all ∙ take_at text _ end (sym at) in
    let rest : drop end items ≡ 0 ∷ replicate n 0 = ap (drop end) all ∙ drop_at text _ end (sym at) in
    let back : drop (end + n) items ≡ 0 ∷ [] = sym (drop-drop n end items) ∙ ap (drop n) rest ∙ last_zero n in
    ap (λ us. us ++ block ++ drop (end + n) items) front
    ∙ ap (λ us. text ++ block ++ us) back

made : (g : _) (c : goal.After-self-1 g)
    → take c.extend_from_slice.new.self.len (c.put_block.new.units ++ drop (length c.put_block.new.units) c.extend_from_slice.new.self.items)
    ≡ nul_terminated (without_nul c.self.inside.units.items ++ c.args.block)
made g c =
    let text = without_nul c.self.inside.units.items in
    let block = c.args.block in
    let units = c.put_block.new.units in
    let grown : c.extend_from_slice.new.self.items ≡ nul_terminated text ++ replicate g.row.N 0 = grind (arith, common_steps) in
    let whole : take c.extend_from_slice.new.self.len (units ++ drop (length units) c.extend_from_slice.new.self.items) ≡ units = take_at units _ _ (omega arith) in
    let end : c.num_chars-end.result ≡ length text = cc in
    whole
    ∙ c.put_block.ensures
    ∙ ap (λ us. take c.num_chars-end.result us ++ block ++ drop (c.num_chars-end.result + g.row.N) us) c.deref_mut.ensures.value
    ∙ over_zeros text block _ _ g.row.N end grown

pub invariant_of-self-2 : goal.invariant_of-self-2
invariant_of-self-2 g c = IsString-made _ _ (made g c) (All-append IsTextUnit _ _ c.self.invariant.1 c.requires)

pub returns-clause-ok : goal.returns-clause-ok
returns-clause-ok g c = ap without_nul (made g c) ∙ without_nul-nul_terminated _ ∙ ap (λ us. us ++ c.args.block) c.self.view_is

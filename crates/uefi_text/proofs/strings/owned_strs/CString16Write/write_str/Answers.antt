-- The characters stand where the NUL stood, before a new one.
use Rattle.std.proofs.Common.{◌≡◌, ◌∙◌, [], ◌∷◌, ◌++◌, append_assoc, ap, sym, take, drop, length, arith}
use Rattle.std.specs.Str.{chars, encode_utf8_all}
use Rattle.std.proofs.lemmas.Grind.{common_steps}
use Rattle.std.proofs.lemmas.List.{take_at}
use Rattle.std.proofs.lemmas.List.Elements.{All-append}
use Rattle.std.proofs.lemmas.Str.{encodes-append, encodes-chars}
use Rattle.uefi_text.specs.Units.{IsTextUnit, nul_terminated, without_nul}
use Rattle.uefi_text.proofs.Texts.{IsString-made, without_nul-nul_terminated}
use Rattle.uefi_text.proofs.strings.owned_strs.CString16Write.write_str.Goals as goal

made : (g : _) (c : goal.After-self-1 g)
    → take c.resize.new.self.len (c.write_text_from.new.units ++ drop (length c.write_text_from.new.units) c.resize.new.self.items)
    ≡ nul_terminated (without_nul c.self.inside.units.items ++ chars c.args.s.now)
made g c =
    let text = without_nul c.self.inside.units.items in
    let cs = chars c.args.s.now in
    let units = c.write_text_from.new.units in
    let front : take c.num_chars-end.result c.resize.new.self.items ≡ text = grind (arith, common_steps) in
    let whole : take c.resize.new.self.len (units ++ drop (length units) c.resize.new.self.items) ≡ units = take_at units _ _ (omega arith) in
    let of_units : units ≡ take c.num_chars-end.result c.resize.new.self.items ++ nul_terminated cs =
    c.write_text_from.ensures ∙ ap (λ us. take c.num_chars-end.result us ++ nul_terminated cs) c.deref_mut.ensures.value in
    whole ∙ of_units ∙ ap (λ us. us ++ nul_terminated cs) front ∙ sym (append_assoc text cs (0 ∷ []))

pub invariant_of-self-2 : goal.invariant_of-self-2
invariant_of-self-2 g c = IsString-made _ _ (made g c) (All-append IsTextUnit _ _ c.self.invariant.1 c.in-Some.ensures.text.0)

pub returns-clause-added : goal.returns-clause-added
returns-clause-added g c =
    ap without_nul (made g c) ∙ without_nul-nul_terminated _ ∙ ap (λ us. us ++ chars c.args.s.now) c.self.view_is

pub returns-clause-ok : goal.returns-clause-ok
returns-clause-ok g c ok =
    let old = c.args.self.now in
    let cs = chars c.args.s.now in
    ap encode_utf8_all (returns-clause-added g c) ∙ encodes-append old cs
    ∙ ap (λ bs. encode_utf8_all old ++ bs) (encodes-chars c.args.s.now c.utf8.s)

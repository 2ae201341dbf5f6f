-- The bytes of one block more end no name.
use Rattle.std.proofs.Common.{◌≡◌, ◌+◌, ◌-◌, ◌∙◌, ℕ, inl, inr, ap, arith, drop, length, length-drop, length-take, slice_index, sym, take}
use Rattle.std.proofs.lemmas.Bool.{cases_lt}
use Rattle.std.proofs.lemmas.List.{get_or-drop, get_or-take}
use Rattle.uefi_node_reader.specs.NamedFiles.{ends_name}
use Rattle.uefi_node_reader.proofs.named_files.inner_blocks_end.Goals as goal

pub loop-end-preserved : goal.loop-end-preserved
loop-end-preserved c =
    let end = c.loop-end.end in
    let text = c.args.text.now in
    let count : ℕ = end + 16 - end in
    let size : length (take count (drop end text)) ≡ 16 = omega (arith, length-take count (drop end text), length-drop end text, c.loop-end-test.true) in
    record {
      within = omega (arith, c.loop-end-test.true);
      inside = λ k within. elim (cases_lt k end) [
        | inl before ↦ c.loop-end.invariant.inside k before
        | inr after ↦
            let place : ℕ = k - end in
            let at : end + place ≡ k = omega (arith, after) in
            let same : slice_index (take count (drop end text)) place ≡ slice_index text k =
            get_or-take count (drop end text) place 0 (omega (arith, within, after)) ∙ get_or-drop end text place 0 ∙ ap (slice_index text) at in
            ap ends_name (sym same) ∙ c.is_inside_name.ensures c.if-is_inside_name.true place (omega (arith, within, after, size))
      ];
    }

use Rattle.std.proofs.Common.{◌≡◌, ◌∙◌, ◌+◌, ◌<◌, ◌≤◌, ◌∷◌, length, min, arith, ap, not, ◌||◌, sym, drop, add-one, length-set, get_or}
use Rattle.std.proofs.Math.Seq.{drop-cons}
use Rattle.std.proofs.lemmas.Bool.{cond-false}
use Rattle.std.proofs.lemmas.List.{drop_all, length-map}
use Rattle.uefi_fat.specs.Oem.{is_unfit, kept_units}
use Rattle.uefi_fat.specs.Trimming.{is_space_or_dot}
use Rattle.uefi_fat.proofs.KeptUnits.{next_kept, next_unit, none_left, others_more, replaced_all, replaced_more, whole_buffer, written_more}
use Rattle.uefi_fat.proofs.oem.units_to_fat.Goals as goal
use Rattle.uefi_fat.proofs.oem.units_to_fat.Goals.{then-not-is_left_out, else-not-is_left_out}

pub loop-unit-preserved : goal.loop-unit-preserved
loop-unit-preserved c =
    let so_far = c.loop-unit in
    let i = so_far.unit-index in
    let units = c.args.units.now in
    let kept = kept_units units in
    let rest = drop (i + 1) units in
    let u = get_or units i 0 in
    let inside : i < length units = omega arith in
    let steps : drop i units ≡ u ∷ rest = rw add-one (drop-cons units i 0 inside) in
    elim c.if-not-is_left_out.branch [
      | then-not-is_left_out w ↦
          let before : drop so_far.len kept ≡ u ∷ kept_units rest =
          next_unit kept (drop i units) rest so_far.len u so_far.invariant.left steps
          (sym c.is_left_out.ensures ∙ w.if-not-is_left_out.true) in
          let more = next_kept kept (kept_units rest) so_far.len u before in
          let room : so_far.len < length so_far.buffer = omega arith in
          record {
            left = rw (w.len-is, add-one) (more.1);
            within = omega (arith, more.0, w.len-is);
            room = rw (w.len-is, w.buffer-is, length-set) (omega arith);
            written = rw (w.len-is, w.buffer-is)
                (written_more kept (kept_units rest) so_far.buffer so_far.len u w.fat_byte.result room w.fat_byte.ensures
                so_far.invariant.written before);
            others = rw (w.len-is, w.buffer-is)
                (others_more c.args.buffer.now so_far.buffer so_far.len w.fat_byte.result room so_far.invariant.others);
            replaced = rw (w.len-is, w.is_replaced-is)
                (ap (λ b. so_far.is_replaced || not b) w.is_fat_unit.ensures
                ∙ replaced_more is_unfit kept (kept_units rest) so_far.len u so_far.is_replaced so_far.invariant.replaced before);
          }
      | else-not-is_left_out w ↦
          let left : drop so_far.len kept ≡ kept_units rest =
          so_far.invariant.left ∙ ap kept_units steps
          ∙ cond-false (not (is_space_or_dot u)) (u ∷ kept_units rest) (kept_units rest)
          (ap not (sym c.is_left_out.ensures ∙ w.if-not-is_left_out.false)) in
          record {
            left = rw w.len-is left;
            within = rw w.len-is so_far.invariant.within;
            room = rw (w.len-is, w.buffer-is) so_far.invariant.room;
            written = rw (w.len-is, w.buffer-is) so_far.invariant.written;
            others = rw (w.len-is, w.buffer-is) so_far.invariant.others;
            replaced = rw (w.len-is, w.is_replaced-is) so_far.invariant.replaced;
          }
    ]

pub returns-after-loop-unit-clause-buffer : goal.returns-after-loop-unit-clause-buffer
returns-after-loop-unit-clause-buffer c =
    let so_far = c.loop-unit in
    let units = kept_units c.args.units.now in
    let all : length units ≤ so_far.len =
    none_left units so_far.len (so_far.invariant.left ∙ ap kept_units (drop_all so_far.unit-index c.args.units.now (omega arith))) in
    let is : so_far.len ≡ min (length units) (length c.args.buffer.now) = omega arith in
    whole_buffer units c.args.buffer.now so_far.buffer so_far.len is so_far.invariant.written so_far.invariant.others

pub returns-after-loop-unit-clause-replaced : goal.returns-after-loop-unit-clause-replaced
returns-after-loop-unit-clause-replaced c =
    let so_far = c.loop-unit in
    let units = kept_units c.args.units.now in
    let all : length units ≤ so_far.len =
    none_left units so_far.len (so_far.invariant.left ∙ ap kept_units (drop_all so_far.unit-index c.args.units.now (omega arith))) in
    let is : so_far.len ≡ min (length units) (length c.args.buffer.now) = omega arith in
    so_far.invariant.replaced ∙ replaced_all is_unfit units so_far.len (length c.args.buffer.now) is

pub returns-after-loop-unit-clause-len : goal.returns-after-loop-unit-clause-len
returns-after-loop-unit-clause-len c =
    let so_far = c.loop-unit in
    let units = kept_units c.args.units.now in
    let all : length units ≤ so_far.len =
    none_left units so_far.len (so_far.invariant.left ∙ ap kept_units (drop_all so_far.unit-index c.args.units.now (omega arith))) in
    grind (arith, length-map)

pub returns-then-len-buffer-clause-buffer : goal.returns-then-len-buffer-clause-buffer
returns-then-len-buffer-clause-buffer c =
    let so_far = c.loop-unit in
    let units = kept_units c.args.units.now in
    let is : so_far.len ≡ min (length units) (length c.args.buffer.now) = omega arith in
    whole_buffer units c.args.buffer.now so_far.buffer so_far.len is so_far.invariant.written so_far.invariant.others

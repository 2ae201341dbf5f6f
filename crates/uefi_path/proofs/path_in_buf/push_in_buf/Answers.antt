-- The NUL stands after what was added to the text.
use Rattle.std.proofs.lemmas.Grind.{common_steps}
use Rattle.std.proofs.Common.{arith}
use Rattle.uefi_text.proofs.SunkUnits.{sunk_and_ended, sunk_nothing, sunk_prefix}
use Rattle.uefi_text.proofs.TextsInBuffers.{counted_len, counted_needed, counted_unchanged}
use Rattle.uefi_path.proofs.path_in_buf.push_in_buf.Goals as goal

pub returns-clause-len : goal.returns-clause-len
returns-clause-len c =
    let text = sunk_prefix c.args.end c.args.buffer.now c.requires (grind (arith, common_steps)) in
    let counted = c.sink_pushed-len.ensures _ _ c.needs_separator-needs.ensures (sunk_nothing _ _ _ _ text) in
    counted_len _ _ _ counted.count c.if-buffer-len.false (grind (arith, common_steps))

pub returns-clause-buffer : goal.returns-clause-buffer
returns-clause-buffer c =
    let text = sunk_prefix c.args.end c.args.buffer.now c.requires (grind (arith, common_steps)) in
    let counted = c.sink_pushed-len.ensures _ _ c.needs_separator-needs.ensures (sunk_nothing _ _ _ _ text) in
    let added = c.sink_pushed.ensures _ _ c.needs_separator-needs.ensures text in
    sunk_and_ended _ _ _ _ _ added counted.count c.if-buffer-len.false (grind (arith, common_steps))

pub returns-then-buffer-len-clause-len : goal.returns-then-buffer-len-clause-len
returns-then-buffer-len-clause-len c =
    let text = sunk_prefix c.args.end c.args.buffer.now c.requires (grind (arith, common_steps)) in
    let counted = c.sink_pushed-len.ensures _ _ c.needs_separator-needs.ensures (sunk_nothing _ _ _ _ text) in
    counted_needed _ _ _ _ counted.count c.if-buffer-len.true c.saturating_add.ensures

pub returns-then-buffer-len-clause-buffer : goal.returns-then-buffer-len-clause-buffer
returns-then-buffer-len-clause-buffer c =
    let text = sunk_prefix c.args.end c.args.buffer.now c.requires (grind (arith, common_steps)) in
    let counted = c.sink_pushed-len.ensures _ _ c.needs_separator-needs.ensures (sunk_nothing _ _ _ _ text) in
    counted_unchanged _ _ _ counted.count c.if-buffer-len.true

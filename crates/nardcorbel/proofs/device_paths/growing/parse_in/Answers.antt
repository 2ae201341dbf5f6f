-- The text is read at an end node, which is taken back if it is refused.
use Rattle.std.proofs.Common.{◌≡◌, ◌∙◌, ap, arith, sym, subst, ℕ, true, false, [], ◌∷◌, ◌++◌, take, drop, length, length-append, length-drop, Result, Ok, Err}
use Rattle.std.proofs.lemmas.Grind.{common_steps}
use Rattle.std.proofs.lemmas.List.{take-append-drop}
use Rattle.std.specs.Result.{is_err}
use Rattle.uefi_device_path.specs.PushedPaths.{Leaves, text_pushed}
use Rattle.uefi_device_path.specs.declared.text.text_errors.PushTextError.{PushTextError}
use Rattle.nardcorbel.proofs.GrownPaths.{begins_empty, ended, parsed_err, parsed_ok}
use Rattle.nardcorbel.specs.PathEnds.{text_parsed}
use Rattle.nardcorbel.proofs.device_paths.growing.parse_in.Goals as goal

pub returns-then-is_err : goal.returns-then-is_err
returns-then-is_err g c =
    by c.push_any_text_in_buf-result.result (sym c.is_err.ensures.value ∙ c.if-is_err.true)
    (rw c.copy_from_slice-2.ensures.after at c.push_any_text_in_buf-result.ensures)
  where
    by : (given : Result ℕ PushTextError) → is_err given ≡ true
        → Leaves (text_pushed c.args.style (g.T.Text.bytes c.args.text) (ended c.args.buffer.now)) (ended c.args.buffer.now) given c.push_any_text_in_buf-result.new.buffer
        → Leaves (text_parsed c.args.style (g.T.Text.bytes c.args.text) c.args.buffer.now) c.args.buffer.now given
        (c.copy_from_slice-then-is_err.new.self ++ drop 4 c.push_any_text_in_buf-result.new.buffer)
    by (Ok n) is left = absurd (cc (is))
    by (Err error) is left =
        let size : length (ended c.args.buffer.now) ≡ length c.args.buffer.now =
        omega (arith, length-append (0x7f ∷ 0xff ∷ 4 ∷ 0 ∷ []) (drop 4 c.args.buffer.now), length-drop 4 c.args.buffer.now, c.requires) in
        let gone = parsed_err c.args.style (g.T.Text.bytes c.args.text) (ended c.args.buffer.now) c.args.buffer.now error _
        (grind (arith, common_steps, size)) (begins_empty (drop 4 c.args.buffer.now)) (grind (arith, size)) left in
        let back : c.copy_from_slice-then-is_err.new.self ++ drop 4 c.push_any_text_in_buf-result.new.buffer ≡ c.args.buffer.now =
        ap (λ us. us ++ drop 4 c.push_any_text_in_buf-result.new.buffer) (c.copy_from_slice-then-is_err.ensures.after ∙ c.copy_from_slice.ensures.after)
        ∙ ap (λ us. take 4 c.args.buffer.now ++ drop 4 us) gone.0 ∙ take-append-drop 4 c.args.buffer.now in
        subst (λ us. Leaves (text_parsed c.args.style (g.T.Text.bytes c.args.text) c.args.buffer.now) c.args.buffer.now (Err error) us) (sym back) gone.1

pub returns-else-is_err : goal.returns-else-is_err
returns-else-is_err g c =
    by c.push_any_text_in_buf-result.result (sym c.is_err.ensures.value ∙ c.if-is_err.false)
    (rw c.copy_from_slice-2.ensures.after at c.push_any_text_in_buf-result.ensures)
  where
    by : (given : Result ℕ PushTextError) → is_err given ≡ false
        → Leaves (text_pushed c.args.style (g.T.Text.bytes c.args.text) (ended c.args.buffer.now)) (ended c.args.buffer.now) given c.push_any_text_in_buf-result.new.buffer
        → Leaves (text_parsed c.args.style (g.T.Text.bytes c.args.text) c.args.buffer.now) c.args.buffer.now given c.push_any_text_in_buf-result.new.buffer
    by (Err error) is left = absurd (cc (is))
    by (Ok n) is left =
        parsed_ok c.args.style (g.T.Text.bytes c.args.text) c.args.buffer.now n _ c.requires (grind (arith, common_steps)) left

-- Two lists are the same exactly where they tie in their order.
use Rattle.std.proofs.Common.{◌≡◌, ◌∙◌, sym}
use Rattle.std.specs.Cmp.Lexicographic.{slice_cmp, texts_ties}
use Rattle.std.specs.Ordering.{eq_by_cmp, nat_cmp}
use Rattle.uefi_text.proofs.strings.strs.are_same.Goals as goal

pub returns-then-one-two : goal.returns-then-one-two
returns-then-one-two c =
    let ties : c.is_eq.result ≡ eq_by_cmp (slice_cmp nat_cmp) c.args.one.now c.args.two.now = cc in
    ties ∙ sym (texts_ties c.args.one.now c.args.two.now)

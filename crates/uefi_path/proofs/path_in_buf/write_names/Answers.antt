-- A name and the separator after it are counted, and have room before the names that stand there.
use Rattle.std.proofs.Common.{◌≡◌, ◌++◌, ◌+◌, ◌-◌, cond, nat_lt, drop, length, arith, ap, ◌∙◌}
use Rattle.std.proofs.lemmas.Bool.Decides.{nat_tests}
use Rattle.std.proofs.lemmas.Grind.{common_steps}
use Rattle.uefi_path.specs.Separators.{with_separators}
use Rattle.uefi_path.proofs.KeptNames.{name_before, name_is_plain, next_counted, next_fits, one_more, with_name}
use Rattle.uefi_text.specs.Views.{units_of}
use Rattle.uefi_path.proofs.path_in_buf.write_names.Goals as goal

pub overflow_add-all : goal.overflow_add-all
overflow_add-all c =
    let (last, walk, are, len, text) = c.loop-name.invariant in
    let one : c.from.result ≡ cond (nat_lt 0 c.loop-name.len) 1 0 = grind (arith, common_steps, c.from.ensures) in
    let fits = next_fits _ _ _ (units_of c.in-Some.name) last c.loop-name.len c.from.result are c.in-Some.ensures.next len one in
    omega (arith, fits, c.requires.bound, c.len.ensures)

pub overflow_add-all-in-Some : goal.overflow_add-all-in-Some
overflow_add-all-in-Some c =
    let (last, walk, are, len, text) = c.loop-name.invariant in
    let one : c.from.result ≡ cond (nat_lt 0 c.loop-name.len) 1 0 = grind (arith, common_steps, c.from.ensures) in
    let fits = next_fits _ _ _ (units_of c.in-Some.name) last c.loop-name.len c.from.result are c.in-Some.ensures.next len one in
    omega (arith, fits, c.requires.bound, c.len.ensures)

pub loop-name-preserved-then-all-places : goal.loop-name-preserved-then-all-places
loop-name-preserved-then-all-places c =
    let (last, walk, are, len, text) = c.loop-name.invariant in
    let name = units_of c.in-Some.name in
    let places = c.loop-name.places in
    let start = length places - c.loop-name.len in
    let one : c.from.result ≡ cond (nat_lt 0 c.loop-name.len) 1 0 = grind (arith, common_steps, c.from.ensures) in
    let more = one_more _ _ _ last name are c.in-Some.ensures.next in
    let plain = name_is_plain _ _ _ last name are c.in-Some.ensures.next in
    let end = c.write_separator_before-end in
    let same : length places ≡ length c.args.places.now = c.loop-name.auto.places in
    let known : drop start places ≡ last = ap (λ n. drop (n - c.loop-name.len) places) same ∙ text (omega (arith, c.if-all-places.true, same)) in
    let begin : end.result ≡ length places - c.loop-name.len - c.from.result =
    grind (arith, nat_tests, end.ensures.place, one, same, c.if-all-places.true) in
    let place : length c.args.places.now - (c.loop-name.len + (c.len.result + c.from.result)) ≡ end.result - length c.units.result.now =
    omega (arith, begin, same, ap length c.units.ensures, c.len.ensures) in (
      name_before name last,
      c.in-Some.ensures.walk,
      more,
      omega (arith, next_counted name last c.loop-name.len c.from.result len one, c.len.ensures),
      λ fits. ap (λ n. drop n c.write_name_before.new.buffer) place
          ∙ c.write_name_before.ensures.text
          ∙ ap (λ us. with_separators us ++ drop end.result end.new.buffer) c.units.ensures
          ∙ ap (λ us. us ++ drop end.result end.new.buffer) plain
          ∙ with_name name places (drop end.result end.new.buffer) start end.ensures.text
          ∙ ap (name_before name) known,
    )

pub loop-name-preserved : goal.loop-name-preserved
loop-name-preserved c =
    let (last, walk, are, len, text) = c.loop-name.invariant in
    let name = units_of c.in-Some.name in
    let one : c.from.result ≡ cond (nat_lt 0 c.loop-name.len) 1 0 = grind (arith, common_steps, c.from.ensures) in (
      name_before name last,
      c.in-Some.ensures.walk,
      one_more _ _ _ last name are c.in-Some.ensures.next,
      omega (arith, next_counted name last c.loop-name.len c.from.result len one, c.len.ensures),
      λ fits. absurd (omega (arith, fits, c.if-all-places.false)),
    )

use Rattle.std.proofs.Common.{◌≡◌, ◌<◌, ◌^◌, ◌+◌, ◌-◌, ◌∙◌, ap, arith, length, rules, sym}
use Rattle.std.proofs.lemmas.List.{length-drop}
use Rattle.uefi_node_reader.proofs.NextBytes.{next-rest}
use Rattle.uefi_node_reader.proofs.Utf16Texts.{bytes_at, bytes_of, length_of, take-padded}
use Rattle.uefi_node_reader.proofs.utf16_texts.Utf16TextText.split_at.Goals as goal
use Rattle.uefi_node_reader.proofs.utf16_texts.Utf16TextText.split_at.Goals.{in-Some-split_first, in_default-split_first}

pub overflow_add-front : goal.overflow_add-front
overflow_add-front c =
    let fits : c.args.self.end < 2 ^ 64 = search rules in
    omega (arith, c.requires, length_of c.args.self, fits)

pub returns-in-Some-clause-front : goal.returns-in-Some-clause-front
returns-in-Some-clause-front c =
    let same : c.args.count + 1 - 1 ≡ c.args.count = omega arith in
    ap (bytes_at c.args.self.units.now.now c.args.self.place) same
    ∙ take-padded c.args.count (c.args.self.end - 1) _ (omega (arith, c.requires, length_of c.args.self))

pub bytes-preserved : goal.bytes-preserved
bytes-preserved c =
    let text = bytes_of c.args.self in
    elim c.match-split_first.branch [
      | in-Some-split_first w ↦ (
          let moved : bytes_of c.match-split_first.back ≡ bytes_of w.in-Some-split_first.after = search rules in
          moved ∙ next-rest text (bytes_of w.in-Some-split_first.after) c.bytes.counter _ (sym c.bytes.invariant ∙ w.in-Some-split_first.ensures)
          )
      | in_default-split_first w ↦ absurd (omega (
        arith,
        length-drop c.bytes.counter text,
        ap length (sym c.bytes.invariant ∙ w.in_default-split_first.ensures),
        c.bytes-test.true,
        c.requires,
      ))
    ]

pub returns-clause-front : goal.returns-clause-front
returns-clause-front c =
    let same : c.args.count + 1 - 1 ≡ c.args.count = omega arith in
    ap (bytes_at c.args.self.units.now.now c.args.self.place) same
    ∙ take-padded c.args.count (c.args.self.end - 1) _ (omega (arith, c.requires, length_of c.args.self))

use Rattle.std.proofs.Common.{◌≡◌, ◌∙◌, List, ℕ, Bool, ap, sym, eqb, take, drop, length, not}
use Rattle.std.specs.Prelude.{◌&&◌}
use Rattle.uefi_node_reader.specs.LenientCalls.{tidied_rest}
use Rattle.uefi_node_reader.proofs.KeptBytes.{split-back, split-front}
use Rattle.uefi_node_reader.proofs.lenient.tidied.TidiedText.split_at.Goals as goal
use Rattle.uefi_node_reader.proofs.lenient.tidied.TidiedText.split_at.Goals.{then-self, else-self, then-self-2, else-self-2}

pub returns-clause-front : goal.returns-clause-front
returns-clause-front g c =
    let text = g.T.Text.bytes c.args.self.text in
    let is_open = c.args.self.is_open in
    let size = length (tidied_rest is_open text) in
    let whole : c.if-self.is_whole ≡ (is_open && eqb c.args.count size) =
    elim c.if-self.branch [
      | then-self w ↦ w.is_whole-is ∙ ap (λ (n : ℕ). eqb c.args.count n) w.len.ensures
          ∙ ap (λ (b : Bool). b && eqb c.args.count size) (sym w.if-self.true)
      | else-self w ↦ w.is_whole-is ∙ w.if-self.false ∙ ap (λ (b : Bool). b && eqb c.args.count size) (sym w.if-self.false)
    ] in
    ap (λ (l : List ℕ). tidied_rest c.if-self.is_whole l)
    (c.split_at.ensures.front ∙ ap (λ (n : ℕ). take n text) c.place_at.ensures.place)
    ∙ split-front is_open c.if-self.is_whole c.args.count text c.requires whole

pub returns-clause-back : goal.returns-clause-back
returns-clause-back g c =
    let text = g.T.Text.bytes c.args.self.text in
    let is_open = c.args.self.is_open in
    let size = length (tidied_rest is_open text) in
    let whole : c.if-self.is_whole ≡ (is_open && eqb c.args.count size) =
    elim c.if-self.branch [
      | then-self w ↦ w.is_whole-is ∙ ap (λ (n : ℕ). eqb c.args.count n) w.len.ensures
          ∙ ap (λ (b : Bool). b && eqb c.args.count size) (sym w.if-self.true)
      | else-self w ↦ w.is_whole-is ∙ w.if-self.false ∙ ap (λ (b : Bool). b && eqb c.args.count size) (sym w.if-self.false)
    ] in
    let is_left : c.if-self-2.result ≡ (is_open && not c.if-self.is_whole) =
    elim c.if-self-2.branch [
      | then-self-2 w ↦ w.result-is ∙ ap (λ (b : Bool). b && not c.if-self.is_whole) (sym w.if-self-2.true)
      | else-self-2 w ↦ w.result-is ∙ w.if-self-2.false ∙ ap (λ (b : Bool). b && not c.if-self.is_whole) (sym w.if-self-2.false)
    ] in
    ap (λ (l : List ℕ). tidied_rest c.if-self-2.result l)
    (c.split_at.ensures.back ∙ ap (λ (n : ℕ). drop n text) c.place_at.ensures.place)
    ∙ split-back is_open c.if-self.is_whole c.if-self-2.result c.args.count text c.requires whole is_left

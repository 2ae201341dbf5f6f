use Rattle.std.proofs.Common.{◌≡◌, ◌+◌, ◌-◌, ◌^◌, ◌∷◌, ◌++◌, [], List, ℕ, ap, arith, length, length-append, min, sym, take, ◌∙◌}
use Rattle.std.proofs.lemmas.List.{length-set}
use Rattle.std.specs.List.{list_all}
use Rattle.uefi_node_steps.specs.Heads.{is_byte}
use Rattle.uefi_node_steps.proofs.Heads.{put_bytes, put_kept}
use Rattle.uefi_node_steps.proofs.head.HeadSink.put.Goals as goal

pub invariant_of-self : goal.invariant_of-self
invariant_of-self c =
    let old = c.args.self.now in
    let next : c.saturating_add-self.result ≡ min (old.count + 1) (2 ^ 64 - 1) = omega (arith, c.saturating_add-self.ensures) in
    let seen : c.with-self.result.bytes ≡ old.seen.bytes ++ c.args.code ∷ [] = c.with-self.ensures in
    record {
      long = ap length c.put_at.ensures ∙ length-set old.bytes old.count c.args.code ∙ old.long;
      counted = omega (arith, next, old.counted, ap length seen, length-append old.seen.bytes (c.args.code ∷ []));
      kept = ap (λ (l : List ℕ). take c.saturating_add-self.result l) c.put_at.ensures
          ∙ put_kept old.bytes old.seen.bytes old.count c.args.code old.long old.counted old.kept c.saturating_add-self.result next ∙ ap (λ (l : List ℕ). take 56 l) (sym seen);
      are_bytes = ap (list_all is_byte) seen ∙ put_bytes old.seen.bytes c.args.code old.are_bytes (omega arith);
    }

-- What was read before, and the chunk after it, is what the reader gave.
use Rattle.std.proofs.Common.{rules, ◌≡◌, ◌∙◌, ◌++◌, [], List, ℕ, ap, sym, take, append_assoc}
use Rattle.std.proofs.KnownBytes.{Consumes-trans}
use Rattle.std.proofs.lemmas.List.{append-nil}
use Rattle.upath.specs.Output.{output_of, output_with}
use Rattle.upath.proofs.streams.run_input.Goals as goal

pub chunks-preserved : goal.chunks-preserved
chunks-preserved g c =
    let read = c.chunks.invariant.0.0 in
    let part = take c.in-Ok-read.count c.read.new.buf in (
      (
        read ++ part,
        Consumes-trans _ _ _ read part c.chunks.invariant.0.1 c.in-Ok-read.ensures.bytes.0,
        λ rest. c.in-Ok-add.ensures.output rest ∙ c.chunks.invariant.0.2 (part ++ rest)
            ∙ ap output_of (sym (append_assoc read part rest)),
      ),
      c.in-Ok-add.ensures.unended,
      search rules,
    )

pub returns-in_default-add-clause-prefix : goal.returns-in_default-add-clause-prefix
returns-in_default-add-clause-prefix g c =
    (_, Consumes-trans _ _ _ _ _ c.chunks.invariant.0.1 c.in-Ok-read.ensures.bytes.0)

pub returns-clause-ok : goal.returns-clause-ok
returns-clause-ok g c =
    let read = c.chunks.invariant.0.0 in
    let part = take c.in-Ok-read.count c.read.new.buf in
    let none : part ≡ [] = ap (λ count. take count c.read.new.buf) c.if-count-eq0.true in (
      read ++ part,
      Consumes-trans _ _ _ read part c.chunks.invariant.0.1 c.in-Ok-read.ensures.bytes.0,
      c.in-Ok-finish.ensures
          ∙ ap (output_with _ _) (sym (append-nil c.chunks.run.begun.items))
          ∙ c.chunks.invariant.0.2 []
          ∙ ap (λ (bytes : List ℕ). output_of (read ++ bytes)) (sym none),
      search rules,
      search rules,
    )

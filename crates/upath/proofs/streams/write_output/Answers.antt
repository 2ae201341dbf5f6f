use Rattle.std.proofs.Common.{arith, rules, take, drop, sym, subst, List, ℕ}
use Rattle.std.proofs.KnownBytes.{Appends-trans}
use Rattle.std.proofs.Math.Seq.{take-add}
use Rattle.std.proofs.lemmas.Grind.{common_steps}
use Rattle.std.proofs.lemmas.List.{take_rest}
use Rattle.std.specs.Io.KnownBytes.{Appends}
use Rattle.upath.proofs.streams.write_output.Goals as goal

-- the bytes that this write took stand after those before
pub loop-written-preserved : goal.loop-written-preserved
loop-written-preserved g c =
    let old = g.W.Write.contents c.args.writer.now.stream in
    let mid = g.W.Write.contents c.loop-written.writer.stream in
    let new = g.W.Write.contents c.write.new.self.stream in
    let output = c.args.output.now in
    let written = c.loop-written.written in
    let count = c.in-Ok.count in
    let taken = subst (λ (bytes : List ℕ). Appends mid new (take count bytes)) (take_rest output written) c.in-Ok.ensures.bytes in
    let all = Appends-trans old mid new (take written output) (take count (drop written output)) c.loop-written.invariant.1 taken in
    (search rules, subst (Appends old new) (sym (take-add written count output)) all, search rules)

pub returns-clause-ok : goal.returns-clause-ok
returns-clause-ok g c = grind (arith, common_steps)

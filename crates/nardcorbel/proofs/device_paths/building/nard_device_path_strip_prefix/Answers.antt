-- Each begins with one path at most.
use Rattle.std.proofs.Common.{◌≡◌, ◌+◌, ◌++◌, ◌∙◌, ap, sym, length, length-append, arith}
use Rattle.std.proofs.lemmas.Grind.{common_steps}
use Rattle.uefi_device_path.specs.Nodes.{end_entire, node_bytes}
use Rattle.uefi_device_path.specs.Paths.{nodes_bytes, path_bytes}
use Rattle.nardcorbel.proofs.device_paths.building.nard_device_path_strip_prefix.Goals as goal

pub returns-then-not-starts_with-clause-begins : goal.returns-then-not-starts_with-clause-begins
returns-then-not-starts_with-clause-begins c = (
  λ no. absurd (cc no),
  λ found.
      let whole = c.in-Ok.ensures.only (found.0 ++ found.1) found.2 in
      let first = c.in-Ok-from_bytes.ensures.only found.0 found.3 in
      let yes = c.starts_with.ensures.1 (found.1, sym whole ∙ ap (λ k. k ++ found.1) first) in
      grind (arith, common_steps),
)

pub returns-clause-place : goal.returns-clause-place
returns-clause-place c = λ yes others begins.
    let first = c.in-Ok-from_bytes.ensures.only others begins in
    let bytes : length c.as_bytes.result.now ≡ length (path_bytes others) = ap length (c.as_bytes.ensures.bytes ∙ ap path_bytes (sym first)) in
    let long : length (path_bytes others) ≡ length (nodes_bytes others) + 4 = length-append (nodes_bytes others) (node_bytes end_entire) in
    omega (arith, bytes, long)

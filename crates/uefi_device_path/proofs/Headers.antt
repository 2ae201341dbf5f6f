-- What the header of a node says is at fault whatever follows it.
use Rattle.std.proofs.Common.{◌≡◌, ◌∙◌, ap, sym, true, ℕ, ◌+◌, ◌≤◌, List, [], ◌∷◌, ◌++◌, Some, length, take, drop, append_assoc, length-append, arith}
use Rattle.std.proofs.lemmas.Grind.{common_steps}
use Rattle.std.proofs.lemmas.List.{take-append-drop, take_at}
use Rattle.uefi_device_nodes.specs.NodeFaults.{node_fault}
use Rattle.uefi_device_nodes.specs.declared.errors.NodeError.{NodeError}
use Rattle.uefi_device_nodes.specs.declared.errors.NodeError.TheVariants.{Missing, TruncatedHeader, UnknownEnd, LengthBelowHeader, EndWithData, BeyondEnd}
use Rattle.uefi_device_path.specs.Faults.{RefusedFor}
use Rattle.uefi_device_path.specs.Laws.{header_end, is_of_header}
use Rattle.uefi_device_path.specs.Paths.{nodes_bytes}
use Rattle.uefi_device_path.specs.declared.errors.DevicePathError.{DevicePathError}

-- a header that is at fault is whole
whole_header : (rest : List ℕ) (cause : NodeError) → is_of_header cause ≡ true → node_fault rest ≡ Some cause → 4 ≤ length rest
whole_header rest Missing is fault = absurd (cc)
whole_header rest TruncatedHeader is fault = absurd (cc)
whole_header rest BeyondEnd is fault = absurd (cc)
whole_header rest UnknownEnd is fault = grind (arith, common_steps)
whole_header rest LengthBelowHeader is fault = grind (arith, common_steps)
whole_header rest EndWithData is fault = grind (arith, common_steps)

-- and is at fault whatever follows it
same_header : (a b c d : ℕ) (x y : List ℕ) (cause : NodeError) → is_of_header cause ≡ true
    → node_fault (a ∷ b ∷ c ∷ d ∷ x) ≡ Some cause → node_fault (a ∷ b ∷ c ∷ d ∷ y) ≡ Some cause
same_header a b c d x y Missing is fault = absurd (cc)
same_header a b c d x y TruncatedHeader is fault = absurd (cc)
same_header a b c d x y BeyondEnd is fault = absurd (cc)
same_header a b c d x y UnknownEnd is fault = grind (arith, common_steps)
same_header a b c d x y LengthBelowHeader is fault = grind (arith, common_steps)
same_header a b c d x y EndWithData is fault = grind (arith, common_steps)

header_decides : (rest y : List ℕ) (cause : NodeError) → is_of_header cause ≡ true → 4 ≤ length rest → node_fault rest ≡ Some cause
    → node_fault (take 4 rest ++ y) ≡ Some cause
header_decides [] y cause is long fault = absurd (omega arith)
header_decides (a ∷ []) y cause is long fault = absurd (omega arith)
header_decides (a ∷ b ∷ []) y cause is long fault = absurd (omega arith)
header_decides (a ∷ b ∷ c ∷ []) y cause is long fault = absurd (omega arith)
header_decides (a ∷ b ∷ c ∷ d ∷ x) y cause is long fault = same_header a b c d x y cause is fault

pub refused_by_header : (bytes others : List ℕ) (error : DevicePathError) → is_of_header error.cause ≡ true
    → RefusedFor bytes error → take (header_end error) others ≡ take (header_end error) bytes → RefusedFor others error
refused_by_header bytes others error is refused agree =
    let nodes = refused.0 in
    let rest = refused.1 in
    let why = refused.2 in
    let end = header_end error in
    let more = drop end others in
    let long = whole_header rest error.cause is why.cause in
    let place : end ≡ length (nodes_bytes nodes) + 4 = omega (arith, why.offset) in
    let front : length (take 4 rest) ≡ 4 = grind (arith, common_steps) in
    let both = length-append (nodes_bytes nodes) (take 4 rest) in
    let passed : length (nodes_bytes nodes ++ take 4 rest) ≡ end = omega (arith, both, front, place) in
    let split : bytes ≡ (nodes_bytes nodes ++ take 4 rest) ++ drop 4 rest =
    why.begins.join ∙ ap (λ k. nodes_bytes nodes ++ k) (sym (take-append-drop 4 rest)) ∙ sym (append_assoc (nodes_bytes nodes) (take 4 rest) (drop 4 rest)) in
    let header : take end bytes ≡ nodes_bytes nodes ++ take 4 rest =
    ap (take end) split ∙ take_at (nodes_bytes nodes ++ take 4 rest) (drop 4 rest) end passed in
    let join : others ≡ nodes_bytes nodes ++ (take 4 rest ++ more) =
    sym (take-append-drop end others) ∙ ap (λ k. k ++ more) (agree ∙ header) ∙ append_assoc (nodes_bytes nodes) (take 4 rest) more in (
      nodes,
      take 4 rest ++ more,
      record {
        begins = record { inner = why.begins.inner; join = join };
        cause = header_decides rest more error.cause is long why.cause;
        offset = why.offset;
      },
    )

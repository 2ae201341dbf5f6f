-- The bytes begin with those of the nodes exactly where the nodes begin with them.
use Rattle.std.proofs.Common.{◌≡◌, ◌∙◌, ◌++◌, ◌-◌, ap, sym, refl, length, take, drop, true, arith}
use Rattle.std.proofs.lemmas.Grind.{common_steps}
use Rattle.std.proofs.lemmas.List.{take-append-drop, take_at}
use Rattle.std.specs.Cmp.Lexicographic.{bytes_decides, pointwise}
use Rattle.std.specs.Prelude.{nat_eq}
use Rattle.uefi_device_path.specs.Paths.{nodes_bytes, path_bytes}
use Rattle.uefi_device_path.specs.Views.{nodes_of}
use Rattle.uefi_device_path.proofs.ShortForms.{after_nodes, bytes_of_both, front_of_path}
use Rattle.uefi_device_path.proofs.Splits.{IsPath-path_bytes}
use Rattle.uefi_device_path.proofs.device_path.DevicePath.strip_prefix.Goals as goal

pub of_path-requires : goal.of_path-requires
of_path-requires c =
    let bytes = c.as_bytes.result.now in
    let front = c.as_bytes-front.result.now in
    let is = front_of_path front (nodes_of c.args.prefix) c.as_bytes-front.ensures.bytes in
    let first = take (length front - 4) front in
    let tested : pointwise nat_eq (take (length first) bytes) first ≡ true = grind (arith, common_steps) in
    let same : take (length first) bytes ≡ first = (bytes_decides (take (length first) bytes) first).0 tested in
    let rest : c.in-Some.rest.now ≡ drop (length first) bytes = grind (arith, common_steps) in
    let split : path_bytes (nodes_of c.args.self.now) ≡ nodes_bytes (nodes_of c.args.prefix) ++ c.in-Some.rest.now =
    sym c.as_bytes.ensures.bytes ∙ sym (take-append-drop (length first) bytes)
    ∙ ap (λ k. k ++ drop (length first) bytes) (same ∙ is) ∙ ap (λ k. nodes_bytes (nodes_of c.args.prefix) ++ k) (sym rest) in
    let found = after_nodes (nodes_of c.args.self.now) (nodes_of c.args.prefix) c.in-Some.rest.now c.as_bytes.ensures.inner
    c.as_bytes-front.ensures.inner split in
    (IsPath-path_bytes found.0 c.in-Some.rest.now found.3 found.2).0

pub returns-in-Some : goal.returns-in-Some
returns-in-Some c =
    let bytes = c.as_bytes.result.now in
    let front = c.as_bytes-front.result.now in
    let is = front_of_path front (nodes_of c.args.prefix) c.as_bytes-front.ensures.bytes in
    let first = take (length front - 4) front in
    let tested : pointwise nat_eq (take (length first) bytes) first ≡ true = grind (arith, common_steps) in
    let same : take (length first) bytes ≡ first = (bytes_decides (take (length first) bytes) first).0 tested in
    let rest : c.in-Some.rest.now ≡ drop (length first) bytes = grind (arith, common_steps) in
    let split : path_bytes (nodes_of c.args.self.now) ≡ nodes_bytes (nodes_of c.args.prefix) ++ c.in-Some.rest.now =
    sym c.as_bytes.ensures.bytes ∙ sym (take-append-drop (length first) bytes)
    ∙ ap (λ k. k ++ drop (length first) bytes) (same ∙ is) ∙ ap (λ k. nodes_bytes (nodes_of c.args.prefix) ++ k) (sym rest) in
    let found = after_nodes (nodes_of c.args.self.now) (nodes_of c.args.prefix) c.in-Some.rest.now c.as_bytes.ensures.inner
    c.as_bytes-front.ensures.inner split in
    found.1 ∙ ap (λ ks. nodes_of c.args.prefix ++ ks) (sym (c.of_path.ensures ∙ (IsPath-path_bytes found.0 c.in-Some.rest.now found.3 found.2).1))

pub returns-in-None : goal.returns-in-None
returns-in-None c = λ rest e.
    let bytes = c.as_bytes.result.now in
    let front = c.as_bytes-front.result.now in
    let is = front_of_path front (nodes_of c.args.prefix) c.as_bytes-front.ensures.bytes in
    let first = take (length front - 4) front in
    let whole : bytes ≡ first ++ path_bytes rest =
    c.as_bytes.ensures.bytes ∙ bytes_of_both (nodes_of c.args.self.now) (nodes_of c.args.prefix) rest e
    ∙ ap (λ k. k ++ path_bytes rest) (sym is) in
    let taken : take (length first) bytes ≡ first = ap (take (length first)) whole ∙ take_at first (path_bytes rest) (length first) refl in
    let tested : pointwise nat_eq (take (length first) bytes) first ≡ true = (bytes_decides (take (length first) bytes) first).1 taken in
    grind (arith, common_steps)

-- The bytes of device paths, one after the other, and of a whole load option.
use Rattle.std.proofs.Common.{◌≡◌, ◌≢◌, ◌∙◌, ap, sym, refl, ℕ, ◌+◌, ◌*◌, ◌<◌, ◌≤◌, List, [], ◌∷◌, ◌++◌, All, None, length, map, take, drop, get_or, length-append, arith}
use Rattle.std.specs.Prelude.{position}
use Rattle.std.proofs.lemmas.Bool.{true≢false}
use Rattle.std.proofs.lemmas.Grind.{common_steps}
use Rattle.std.proofs.lemmas.List.{drop_at, take-append-drop, take_all, take_more}
use Rattle.std.proofs.lemmas.List.Elements.{All-cons, All-from_get_or, All-nil}
use Rattle.uefi_text.proofs.Finding.{position-None}
use Rattle.uefi_text.proofs.UnitBytes.{length-unit_bytes}
use Rattle.uefi_text.specs.UnitBytes.{unit_bytes}
use Rattle.uefi_text.specs.Units.{is_nul, nul_terminated}
use Rattle.uefi_device_nodes.specs.Nodes.{IsInner}
use Rattle.uefi_device_path.specs.LoadOptions.{Entry, entry_bytes, four_bytes, two_bytes}
use Rattle.uefi_device_path.specs.OptionEdits.{with_description}
use Rattle.uefi_device_path.specs.PathLists.{ArePaths, list_bytes}
use Rattle.uefi_device_path.specs.Paths.{path_bytes}
use Rattle.uefi_device_path.specs.Views.{nodes_of}
use Rattle.uefi_device_path.specs.declared.device_path.DevicePath.{DevicePath}

-- how many bytes a load option has
pub long-entry_bytes : (entry : Entry) → length (entry_bytes entry)
    ≡ 8 + 2 * length entry.description + length (list_bytes entry.paths) + length entry.optional
long-entry_bytes entry =
    let text = length-unit_bytes (nul_terminated entry.description) in
    let units = length-append entry.description (0 ∷ []) in
    let tail = length-append (list_bytes entry.paths) entry.optional in
    let rest = length-append (unit_bytes (nul_terminated entry.description)) (list_bytes entry.paths ++ entry.optional) in
    omega (arith, text, units, tail, rest)

-- the bytes of the first paths
pub front_bytes : List DevicePath → ℕ → List ℕ
front_bytes paths count = list_bytes (map nodes_of (take count paths))

pub front_none : (paths : List DevicePath) → front_bytes paths 0 ≡ []
unfolding front_bytes
front_none paths = refl

pub front_all : (paths : List DevicePath) (count : ℕ) → length paths ≤ count → front_bytes paths count ≡ list_bytes (map nodes_of paths)
unfolding front_bytes
front_all paths count all = ap (λ ps. list_bytes (map nodes_of ps)) (take_all count paths all)

pub front_more : (paths : List DevicePath) (count : ℕ) (path : DevicePath) (bytes : List ℕ) → count < length paths
    → path ≡ get_or paths count path → bytes ≡ path_bytes (nodes_of path)
    → front_bytes paths (count + 1) ≡ front_bytes paths count ++ bytes
unfolding front_bytes
front_more paths count path bytes within is shown =
    let one : take (count + 1) paths ≡ take count paths ++ path ∷ [] = take_more paths count path within ∙ ap (λ p. take count paths ++ p ∷ []) (sym is) in
    let last : list_bytes (map nodes_of (take count paths ++ path ∷ [])) ≡ list_bytes (map nodes_of (take count paths)) ++ path_bytes (nodes_of path) = grind (arith, common_steps) in
    ap (λ ps. list_bytes (map nodes_of ps)) one ∙ last ∙ ap (λ k. list_bytes (map nodes_of (take count paths)) ++ k) (sym shown)

pub long_more : (paths : List DevicePath) (count : ℕ) (path : DevicePath) (bytes : List ℕ) → count < length paths
    → path ≡ get_or paths count path → bytes ≡ path_bytes (nodes_of path)
    → length (front_bytes paths (count + 1)) ≡ length (front_bytes paths count) + length bytes
long_more paths count path bytes within is shown =
    ap length (front_more paths count path bytes within is shown) ∙ length-append (front_bytes paths count) bytes

pub front_within : (paths : List DevicePath) (count : ℕ) → length (front_bytes paths count) ≤ length (list_bytes (map nodes_of paths))
unfolding front_bytes
front_within paths count =
    let split : list_bytes (map nodes_of paths) ≡ front_bytes paths count ++ list_bytes (map nodes_of (drop count paths)) =
    ap (λ ps. list_bytes (map nodes_of ps)) (sym (take-append-drop count paths)) ∙ grind (arith, common_steps) in
    let long = ap length split ∙ length-append (front_bytes paths count) (list_bytes (map nodes_of (drop count paths))) in
    omega (arith, long)

-- where no NUL was found there is none
pub no_nul : (units : List ℕ) → position is_nul units ≡ None → All (λ unit. unit ≢ 0) units
no_nul units none =
    All-from_get_or (λ unit. unit ≢ 0) units 0 (λ k h e. true≢false (sym (ap is_nul e) ∙ position-None is_nul units none k h))

-- the nodes of device paths may stand before an end
pub paths_are : (paths : List DevicePath) → ArePaths (map nodes_of paths)
unfolding nodes_of
paths_are [] = All-nil (All IsInner)
paths_are (path ∷ paths) = All-cons (All IsInner) (nodes_of path) (map nodes_of paths) path.is_path.nodes.inner (paths_are paths)

pub some_paths : (paths : List DevicePath) → length paths ≢ 0 → map nodes_of paths ≢ []
some_paths [] some e = some refl
some_paths (path ∷ paths) some e = absurd (cc)

-- what stands after the description
pub after_entry : (entry : Entry) → drop (8 + 2 * length entry.description) (entry_bytes entry) ≡ list_bytes entry.paths ++ entry.optional
after_entry entry =
    let units = unit_bytes (nul_terminated entry.description) in
    let front = four_bytes entry.attributes ++ (two_bytes (length (list_bytes entry.paths)) ++ units) in
    let text = length-unit_bytes (nul_terminated entry.description) in
    let terminated = length-append entry.description (0 ∷ []) in
    drop_at front (list_bytes entry.paths ++ entry.optional) (8 + 2 * length entry.description) (omega (arith, text, terminated))

-- how many bytes it has
pub long-with_description : (entry : Entry) (text rest : List ℕ) → rest ≡ drop (8 + 2 * length entry.description) (entry_bytes entry)
    → 8 + 2 * length text + length rest ≡ length (entry_bytes (with_description text entry))
long-with_description entry text rest is =
    let long = ap length (is ∙ after_entry entry) ∙ length-append (list_bytes entry.paths) entry.optional in
    let whole = long-entry_bytes (with_description text entry) in
    omega (arith, long, whole)

-- a header, another description and what stands after the old one are the load option with it
pub described_bytes : (entry : Entry) (text : List ℕ)
    → take 6 (entry_bytes entry) ++ (unit_bytes (nul_terminated text) ++ drop (8 + 2 * length entry.description) (entry_bytes entry))
    ≡ entry_bytes (with_description text entry)
described_bytes entry text =
    ap (λ k. take 6 (entry_bytes entry) ++ (unit_bytes (nul_terminated text) ++ k)) (after_entry entry)

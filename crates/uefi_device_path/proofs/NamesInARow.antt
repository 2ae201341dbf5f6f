-- Names of nodes one after the other are pushed.
use Rattle.std.proofs.Common.{◌≡◌, ◌≢◌, ◌∙◌, ap, sym, refl, subst, inl, inr, ℕ, true, false, List, [], ◌∷◌, ◌++◌, All, filter, fold, map, append_assoc}
use Rattle.std.specs.List.{flat_map}
use Rattle.std.proofs.lemmas.Bool.{cases_Bool}
use Rattle.std.proofs.lemmas.List.{append-nil}
use Rattle.std.proofs.lemmas.List.Elements.{All-append, All-head, All-tail}
use Rattle.uefi_path.proofs.Joining.{pushed-with_separators, All-canonical, IsPlain-with_separators}
use Rattle.uefi_path.specs.Components.{components_of, pieces_between}
use Rattle.uefi_path.specs.Laws.{ComponentsAreJoined, FullTextsTakeMore, IsRelative}
use Rattle.uefi_path.specs.Pushing.{pushed}
use Rattle.uefi_path.specs.Separators.{becomes_separator, canonical, slash, with_separators}
use Rattle.uefi_device_nodes.specs.FileNodes.{is_file}
use Rattle.uefi_device_nodes.specs.Nodes.{Node}
use Rattle.uefi_device_path.specs.FilePaths.{file_names, file_path, name_after, name_in, unrooted, with_node}

-- a name without its first separator is its canonical text
unrooted_canonical : (name : List ℕ) → with_separators (unrooted name) ≡ canonical (with_separators name)
unrooted_canonical [] = refl
unrooted_canonical (u ∷ us) = elim (cases_Bool (becomes_separator u)) [
  | inl rooted ↦ rw rooted refl
  | inr plain ↦ rw plain refl
]

-- a name is the whole path after none, and else is pushed without its first separator
alone : (name : List ℕ) → name_after [] name ≡ with_separators name
alone [] = refl
alone (u ∷ us) = refl

after_path : (u : ℕ) (us name : List ℕ) → name_after (u ∷ us) name ≡ pushed (u ∷ us) (canonical (with_separators name))
after_path u us name = sym (pushed-with_separators (u ∷ us) (unrooted name)) ∙ ap (pushed (u ∷ us)) (unrooted_canonical name)

-- the first node, where it names a file and where it does not
module _ (n : Node) (nodes : List Node) where
  kept : is_file n ≡ true → filter is_file (n ∷ nodes) ≡ n ∷ filter is_file nodes
  kept file = rw file refl

  dropped : is_file n ≡ false → filter is_file (n ∷ nodes) ≡ filter is_file nodes
  dropped other = rw other refl

  named : is_file n ≡ true → file_names (n ∷ nodes) ≡ with_separators (name_in n.content) ∷ file_names nodes
  named file = ap (map (λ node. with_separators (name_in node.content))) (kept file)

  unnamed : is_file n ≡ false → file_names (n ∷ nodes) ≡ file_names nodes
  unnamed other = ap (map (λ node. with_separators (name_in node.content))) (dropped other)

added : (path : List ℕ) (n : Node) → is_file n ≡ true → with_node path n ≡ name_after path (name_in n.content)
added path n file = rw file refl

unchanged : (path : List ℕ) (n : Node) → is_file n ≡ false → with_node path n ≡ path
unchanged path n other = rw other refl

pub one_name : (n : Node) → is_file n ≡ true → file_path (n ∷ []) ≡ with_separators (name_in n.content)
one_name n file = added [] n file ∙ alone (name_in n.content)

pub only_files : (nodes : List Node) (path : List ℕ) → fold with_node path nodes ≡ fold with_node path (filter is_file nodes)
only_files [] path = refl
only_files (n ∷ nodes) path = elim (cases_Bool (is_file n)) [
  | inl file ↦ only_files nodes (with_node path n) ∙ ap (fold with_node path) (sym (kept n nodes file))
  | inr other ↦ ap (λ p. fold with_node p nodes) (unchanged path n other) ∙ only_files nodes path
      ∙ ap (fold with_node path) (sym (dropped n nodes other))
]

pushed_name : (path name : List ℕ) → IsRelative (with_separators name) → name_after path name ≡ pushed path (with_separators name)
pushed_name [] name relative = sym (pushed-with_separators [] name)
pushed_name (u ∷ us) name relative = after_path u us name ∙ ap (pushed (u ∷ us)) relative

pub relative_pushed : (nodes : List Node) (path : List ℕ) → All IsRelative (file_names nodes)
    → fold with_node path nodes ≡ fold pushed path (file_names nodes)
relative_pushed [] path relative = refl
relative_pushed (n ∷ nodes) path relative = elim (cases_Bool (is_file n)) [
  | inl file ↦
      let name = with_separators (name_in n.content) in
      let all = subst (All IsRelative) (named n nodes file) relative in
      ap (λ p. fold with_node p nodes)
      (added path n file ∙ pushed_name path (name_in n.content) (All-head IsRelative name (file_names nodes) all))
      ∙ relative_pushed nodes (pushed path name) (All-tail IsRelative name (file_names nodes) all)
      ∙ ap (fold pushed path) (sym (named n nodes file))
  | inr other ↦
      ap (λ p. fold with_node p nodes) (unchanged path n other)
      ∙ relative_pushed nodes path (subst (All IsRelative) (unnamed n nodes other) relative)
      ∙ ap (fold pushed path) (sym (unnamed n nodes other))
]

-- components of which none is empty
abbrev pub AreFull : List ℕ → Type 0
AreFull text = All (λ component. component ≢ []) (components_of text)

module _ (join : ComponentsAreJoined) (takes : FullTextsTakeMore) where
  after_name : (path name : List ℕ) → AreFull path → AreFull (with_separators name)
      → components_of (name_after path name) ≡ components_of path ++ components_of (with_separators name)
  after_name [] name full full_name = ap components_of (alone name)
  after_name (u ∷ us) name full full_name =
      let text = with_separators name in
      let relative = (takes text full_name).1 in
      ap components_of (after_path u us name)
      ∙ join (u ∷ us) (canonical text) (takes (u ∷ us) full).0 (All-canonical (λ unit. unit ≢ slash) text (IsPlain-with_separators name)) relative
      ∙ ap (λ rest. components_of (u ∷ us) ++ pieces_between rest) relative

  pub in_a_row : (nodes : List Node) (path : List ℕ) → AreFull path → All AreFull (file_names nodes)
      → components_of (fold with_node path nodes) ≡ components_of path ++ flat_map components_of (file_names nodes)
  in_a_row [] path full names = sym (append-nil (components_of path))
  in_a_row (n ∷ nodes) path full names = elim (cases_Bool (is_file n)) [
    | inl file ↦
        let name = with_separators (name_in n.content) in
        let all = subst (All AreFull) (named n nodes file) names in
        let first = All-head AreFull name (file_names nodes) all in
        let made : components_of (with_node path n) ≡ components_of path ++ components_of name =
        ap components_of (added path n file) ∙ after_name path (name_in n.content) full first in
        let more : AreFull (with_node path n) =
        subst (All (λ component. component ≢ [])) (sym made)
        (All-append (λ component. component ≢ []) (components_of path) (components_of name) full first) in
        in_a_row nodes (with_node path n) more (All-tail AreFull name (file_names nodes) all)
        ∙ ap (λ cs. cs ++ flat_map components_of (file_names nodes)) made
        ∙ append_assoc (components_of path) (components_of name) (flat_map components_of (file_names nodes))
        ∙ ap (λ ns. components_of path ++ flat_map components_of ns) (sym (named n nodes file))
    | inr other ↦
        ap (λ p. components_of (fold with_node p nodes)) (unchanged path n other)
        ∙ in_a_row nodes path full (subst (All AreFull) (unnamed n nodes other) names)
        ∙ ap (λ ns. components_of path ++ flat_map components_of ns) (sym (unnamed n nodes other))
  ]

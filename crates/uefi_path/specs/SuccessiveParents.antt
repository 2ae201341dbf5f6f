-- The parent of a path, the parent of that, and so on.
use Rattle.std.specs.Prelude.{◌≡◌, ℕ, zero, suc, ◌-◌, List, [], ◌∷◌, length, take, Option, Some, None}
use Rattle.uefi_path.specs.Components.{components_of, joined}
use Rattle.uefi_path.specs.Parents.{parent_text}

-- the first list is the parent of the text, each other list the parent of the one before it, and
-- the last has no parent
abbrev pub AreParents : List ℕ → List (List ℕ) → Type 0
AreParents text [] = parent_text text ≡ None
AreParents text (parent ∷ parents) = (parent_text text ≡ Some parent) × AreParents parent parents

-- a parent and its successive parents, at most a given number
abbrev pub parents_from : ℕ → Option (List ℕ) → List (List ℕ)
parents_from most None = []
parents_from zero (Some parent) = []
parents_from (suc most) (Some parent) = parent ∷ parents_from most (parent_text parent)

-- the successive parents of a text, which are fewer than its units
abbrev pub parents_of : List ℕ → List (List ℕ)
parents_of text = parents_from (length text) (parent_text text)

-- a parent, if there is one, and its successive parents
abbrev pub parent_chain : Option (List ℕ) → List (List ℕ)
parent_chain None = []
parent_chain (Some parent) = parent ∷ parents_of parent

-- the prefixes of components, joined: of `count` of them, of one fewer, and so on down to one
abbrev pub prefixes : ℕ → List (List ℕ) → List (List ℕ)
prefixes zero components = []
prefixes (suc count) components =
    joined (take (suc count) components) ∷ prefixes count components

-- the shorter non-empty prefixes of a path, the longest first: its components without the last,
-- without the last two, and so on down to the first alone, each joined
abbrev pub shorter_prefixes : List ℕ → List (List ℕ)
shorter_prefixes text = prefixes (length (components_of text) - 1) (components_of text)

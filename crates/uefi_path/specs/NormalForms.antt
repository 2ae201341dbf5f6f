-- Normal forms: a `.` goes, and a name goes with the `..` right after it, until neither is left.
use Rattle.std.specs.Prelude.{◌≡◌, ◌≢◌, ℕ, ◌==◌, ◌&&◌, if◌then◌else◌, List, [], ◌∷◌, ◌++◌, ◌⊎◌}
use Rattle.std.proofs.Common.{zero, suc}
use Rattle.uefi_path.specs.Components.{joined}
use Rattle.uefi_path.specs.Separators.{separator}
use Rattle.uefi_path.specs.declared.splitting.component_kinds.Kind.{Kind}
use Rattle.uefi_path.specs.declared.splitting.component_kinds.Kind.TheVariants.{Dot, DotDot, Name}

-- the piece `.`, which stays where it is
abbrev pub dot : List ℕ
dot = 46 ∷ []

-- the piece `..`, which goes up
abbrev pub dot_dot : List ℕ
dot_dot = 46 ∷ 46 ∷ []

-- a name: any other piece
abbrev pub IsName : List ℕ → Type 0
IsName piece = (piece ≢ dot) × (piece ≢ dot_dot)

-- a `.` is deleted, wherever it stands
pub record DeletesDot (old new : List (List ℕ)) : Type 0 where
  pub front : List (List ℕ)
  pub back : List (List ℕ)
  pub before : old ≡ front ++ dot ∷ back
  pub after : new ≡ front ++ back

-- a name is deleted with the `..` right after it, wherever they stand
pub record DeletesPair (old new : List (List ℕ)) : Type 0 where
  pub front : List (List ℕ)
  pub name : List ℕ
  pub back : List (List ℕ)
  pub is_name : IsName name
  pub before : old ≡ front ++ name ∷ dot_dot ∷ back
  pub after : new ≡ front ++ back

-- one step
abbrev pub Step : List (List ℕ) → List (List ℕ) → Type 0
Step old new = DeletesDot old new ⊎ DeletesPair old new

-- steps, as often as the count says
abbrev pub Steps : ℕ → List (List ℕ) → List (List ℕ) → Type 0
Steps zero old new = old ≡ new
Steps (suc count) old new = (between : List (List ℕ)) × Step old between × Steps count between new

-- steps lead from a list of pieces to another
abbrev pub Rewrites : List (List ℕ) → List (List ℕ) → Type 0
Rewrites old new = (count : ℕ) × Steps count old new

-- a normal list of pieces: no step leads from it
abbrev pub IsNormal : List (List ℕ) → Type 0
IsNormal pieces = (others : List (List ℕ)) → ¬ Step pieces others

-- the normal form of pieces: steps lead to it, and no step leads further
abbrev pub NormalForm : List (List ℕ) → List (List ℕ) → Type 0
NormalForm pieces normal = Rewrites pieces normal × IsNormal normal

-- what a piece is to the steps
abbrev pub kind : List ℕ → Kind
kind [] = Name
kind (c ∷ []) = if c == 46 then Dot else Name
kind (c ∷ d ∷ []) = if (c == 46) && (d == 46) then DotDot else Name
kind (c ∷ d ∷ e ∷ rest) = Name

-- a name before a piece of this kind and others: a `..` goes with it
abbrev pub before_piece : Kind → List ℕ → List ℕ → List (List ℕ) → List (List ℕ)
before_piece Dot name piece others = name ∷ piece ∷ others
before_piece DotDot name piece others = others
before_piece Name name piece others = name ∷ piece ∷ others

-- a piece of this kind before normal pieces
abbrev pub before_normal : Kind → List ℕ → List (List ℕ) → List (List ℕ)
before_normal Dot piece others = others
before_normal DotDot piece others = piece ∷ others
before_normal Name piece [] = piece ∷ []
before_normal Name piece (next ∷ others) = before_piece (kind next) piece next others

-- the one normal form that a list of pieces has
abbrev pub normal_of : List (List ℕ) → List (List ℕ)
normal_of [] = []
normal_of (piece ∷ pieces) = before_normal (kind piece) piece (normal_of pieces)

-- the text of normal pieces: the pieces joined, or a lone separator if there are none
abbrev pub normal_text : List (List ℕ) → List ℕ
normal_text [] = separator ∷ []
normal_text (piece ∷ pieces) = joined (piece ∷ pieces)

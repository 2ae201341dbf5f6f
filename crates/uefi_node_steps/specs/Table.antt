-- The forms of a table: how nodes are printed and read.
use Rattle.std.specs.Prelude.{◌≡◌, ℕ, Bool, true, false, nat_lt, not, ◌==◌, ◌&&◌, ◌||◌, if◌then◌else◌, List, [], ◌∷◌, ◌++◌, codes, is_some, Ok, Err, ◌⊎◌}
use Rattle.std.specs.Char.{to_ascii_uppercase}
use Rattle.std.specs.List.{list_all}
use Rattle.uefi_node_steps.specs.Leaves.{Leaf, Read, clash, digit_of, is_spare, stop_at}
use Rattle.uefi_node_steps.specs.Steps.{FitsLists, FitsStep, IsTold, Laid, Parts, Step, ends_all, is_closed, is_sound, laid_leaf, lists, step_leaf}
use Rattle.uefi_node_steps.specs.declared.steps.Expected.TheVariants as expected
use Rattle.uefi_node_steps.specs.declared.steps.Field.{Field as FieldOf}
use Rattle.uefi_node_steps.specs.declared.steps.FormOf.{FormOf}
use Rattle.uefi_node_steps.specs.declared.steps.Mode.{Mode}
use Rattle.uefi_node_steps.specs.declared.steps.Mode.TheVariants.{Read as ReadMode, Printed, Display, Libefivar, People}
use Rattle.uefi_node_steps.specs.declared.steps.Shape.{Shape}
use Rattle.uefi_node_steps.specs.declared.steps.Shape.TheVariants.{Hexadecimal, Marked, Decimal, Next, Forth, Back, BaseForth, BaseBack, Guid, Ipv4, Ipv6, Eisa}
use Rattle.uefi_node_steps.specs.declared.steps.StepOf.TheVariants.{Literal, Field}
use Rattle.uefi_node_steps.specs.declared.steps.Stop.{Stop}

-- a form of nodes
pub record Form : Type 0 where
  pub kind : ℕ
  pub sub_kind : ℕ
  pub mode : Mode
  pub more : ℕ
  pub when : List (ℕ × ℕ)
  pub laid : Laid

-- a form of the table; the bytes that distinguish it are as fixed as the others
abbrev pub as_form : FormOf (record { now : List Step }) (record { now : List (ℕ × ℕ) }) → Form
as_form form = record {
  kind = form.kind;
  sub_kind = form.sub_kind;
  mode = form.mode;
  more = form.more;
  when = form.when.now;
  laid = record {
    size = form.layout.size;
    bytes = form.when.now ++ form.layout.bytes.now;
    steps = form.layout.steps.now;
  };
}

-- the data of a form, and its text
abbrev pub form_leaf : Form → Leaf Parts
form_leaf form = laid_leaf (step_leaf lists) form.laid

-- data that its text in a form describes completely
abbrev pub FitsForm : Form → Parts → Type 0
FitsForm form data_ = IsTold (FitsStep FitsLists) form.laid data_

-- whether texts of a form are read, and whether they are also printed
abbrev pub is_read : Mode → Bool
is_read ReadMode = true
is_read Printed = false
is_read Display = false
is_read Libefivar = false
is_read People = true

abbrev pub is_exact : Mode → Bool
is_exact ReadMode = true
is_exact mode = false

-- whether a form reads back what it prints, whatever follows
abbrev pub is_sound_form : Form → Bool
is_sound_form form = is_sound form.laid && ends_all is_closed form.laid.steps

-- whether all forms that are read do
abbrev pub are_sound : List Form → Bool
are_sound forms = list_all (λ form. not (is_read form.mode) || is_sound_form form) forms

-- the letters that the texts of steps begin with, if the first step is a literal, and the steps after it
abbrev pub lead : List Step → List ℕ
lead (Literal letters ∷ steps) = letters.now
lead steps = []

abbrev pub behind : List Step → List Step
behind (Literal letters ∷ steps) = steps
behind steps = steps

-- the letters that all texts of a shape begin with
abbrev pub base_of : Shape → List ℕ
base_of Hexadecimal = codes "0x"
base_of Marked = codes "0x"
base_of Next = codes "0x"
base_of BaseForth = codes "0x"
base_of BaseBack = codes "0x"
base_of shape = []

-- the letters that the texts of steps begin with, if the first step is a field
abbrev pub head_of : List Step → List ℕ
head_of (Field f ∷ steps) = base_of f.shape
head_of steps = []

-- whether no value of a shape begins with this letter
abbrev pub refuses : Shape → ℕ → Bool
refuses Hexadecimal c = not (nat_lt (digit_of (to_ascii_uppercase c)) 10)
refuses Marked c = not (nat_lt (digit_of (to_ascii_uppercase c)) 10)
refuses Decimal c = not (nat_lt (digit_of (to_ascii_uppercase c)) 10)
refuses Next c = not (nat_lt (digit_of (to_ascii_uppercase c)) 10)
refuses Ipv6 c = c == 41
refuses Ipv4 c = not (nat_lt (digit_of (to_ascii_uppercase c)) 10)
refuses shape c = false

-- whether people may leave out a field before this letter
abbrev pub is_omitted : FieldOf → ℕ → Bool
is_omitted f c = is_some f.spare && (c == 41)

-- a number for each shape that several forms of one name have, and 0 for the others
abbrev pub number_of_shape : Shape → ℕ
number_of_shape Hexadecimal = 1
number_of_shape Decimal = 2
number_of_shape Next = 3
number_of_shape Forth = 4
number_of_shape Back = 5
number_of_shape BaseForth = 6
number_of_shape BaseBack = 7
number_of_shape Guid = 8
number_of_shape Ipv4 = 9
number_of_shape Ipv6 = 10
number_of_shape Eisa = 11
number_of_shape Marked = 12
number_of_shape shape = 0

-- whether fields have the same texts
abbrev pub are_alike : FieldOf → FieldOf → Bool
are_alike f g = not (number_of_shape f.shape == 0)
    && ((number_of_shape f.shape == number_of_shape g.shape) && (f.width == g.width))

-- whether a shape does not read what the other prints
abbrev pub shapes_differ : Shape → Shape → Bool
shapes_differ one other = (number_of_shape one == 9) && (number_of_shape other == 10)

-- whether the first letters are these, in either case, and a test holds of the others
abbrev pub strip : List ℕ → List ℕ → (List ℕ → Bool) → Bool
strip [] letters test = test letters
strip (c ∷ cs) [] test = false
strip (c ∷ cs) (d ∷ ds) test = (to_ascii_uppercase c == to_ascii_uppercase d) && strip cs ds test

-- whether steps do not read these letters, and then what the other steps print
abbrev pub reject : List Step → List ℕ → List Step → Bool
reject [] letters others = false
reject (Literal wanted ∷ steps) letters others = if is_spare wanted.now
    (letters ++ head_of others) then reject steps letters others
    else clash wanted.now (letters ++ head_of others)
    || strip wanted.now letters (λ rest. reject steps rest others)
reject (Field f ∷ steps) (c ∷ letters) others =
    if is_omitted f c then reject steps (c ∷ letters) others else refuses f.shape c
reject (Field f ∷ steps) [] (Field g ∷ others) =
    shapes_differ f.shape g.shape || (are_alike f g && reject steps (lead others) (behind others))
reject steps letters others = false

-- whether a form does not read what the other prints, unless it is not read or the other is not printed
abbrev pub differ : Form → Form → Bool
differ one other = not (is_read one.mode) || (not (is_exact other.mode)
    || reject one.laid.steps (lead other.laid.steps) (behind other.laid.steps))

-- whether no form reads what a later form prints
abbrev pub all_differ : List Form → Bool
all_differ [] = true
all_differ (form ∷ forms) = list_all (differ form) forms && all_differ forms

-- the stop with less text left
abbrev pub further : Stop → Stop → Stop
further one other = if nat_lt other.left one.left then other else one

-- what was read in a form, or else in one of the others
abbrev pub or_next : Form → Read Parts → Read (Form × Parts) → Read (Form × Parts)
or_next form (Ok read) others = Ok ((form, read.0), read.1)
or_next form (Err stop) (Ok read) = Ok read
or_next form (Err stop) (Err other) = Err (further stop other)

-- a text in the first form that reads it
abbrev pub forms_read : List Form → List ℕ → Read (Form × Parts)
forms_read [] text = Err (stop_at text expected.Node)
forms_read (form ∷ forms) text =
    if is_read form.mode then or_next form ((form_leaf form).read text) (forms_read forms text)
    else forms_read forms text

-- a form of a list
abbrev pub IsOf : Form → List Form → Type 0
IsOf form [] = ⊥
IsOf form (other ∷ forms) = (form ≡ other) ⊎ IsOf form forms

-- data of a form that is read, which its text describes completely
pub record Tabled (forms : List Form) (x : Form × Parts) : Type 0 where
  pub listed : IsOf x.0 forms
  pub read : is_read x.0.mode ≡ true
  pub told : FitsForm x.0 x.1

-- the text of a form
abbrev pub form_text : Form × Parts → List ℕ
form_text x = (form_leaf x.0).text x.1

-- How GNU names the instructions of each row: the tables of constants, and what they say of a code.
use Rattle.std.specs.Prelude.{ℕ, Bool, false, ◌&&◌, ◌==◌, if◌then◌else◌, List, [], slice_get, unwrap_or, map}
use Rattle.text_options.specs.declared.gnu_form.Form.{Form}
use Rattle.text_options.specs.declared.gnu_form.Branch.TheVariants as branch
use Rattle.text_options.specs.declared.gnu_form.Implied.TheVariants as implied
use Rattle.text_options.specs.declared.generated_gnu.TheConstants.{EXCHANGE_FORM, GNU_FORMS, GNU_INDEXES, GNU_NAMES, NOP}

-- ---- by code

-- the form of a row whose names are the manual's
abbrev pub plain_form : Form
plain_form = record {
  intel = 0;
  att = 0;
  memory = 0;
  lettered = false;
  only_64 = false;
  repeats = false;
  branch = branch.No;
  first = implied.No;
  second = implied.No;
  size = 0;
  is_unsized = false;
}

-- which form a row has, by its code
unfoldable pub index_of : ℕ → ℕ
index_of code = unwrap_or (slice_get GNU_INDEXES code) 0

-- the form at a place of the list
unfoldable pub form_in : ℕ → Form
form_in k = unwrap_or (slice_get GNU_FORMS k) plain_form

-- the form of a row by its code; NOP with the prefix 66 is called XCHG
unfoldable pub form_of : ℕ → Bool → Form
form_of code sized = if sized && (code == NOP) then form_in EXCHANGE_FORM else form_in (index_of code)

-- the names that are not the manual's, as bytes
unfoldable pub own_names : List (List ℕ)
own_names = map (λ name. name.now) GNU_NAMES

-- a name by its place in the list
unfoldable pub own_name : ℕ → List ℕ
own_name n = unwrap_or (slice_get own_names n) []

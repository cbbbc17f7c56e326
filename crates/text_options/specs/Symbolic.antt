-- How symbols are written.
use Rattle.std.specs.Prelude.{ℕ, Bool, false, ◌==◌, is_some, if◌then◌else◌, List, [], ◌++◌, replicate, Option, Some, None, codes}
use Rattle.text_parts.specs.Numbers.{hexadecimal}
use Rattle.text_pieces.specs.declared.piece.Role.TheVariants as role
use Rattle.text_pieces.specs.declared.piece.Number.{Number}
use Rattle.text_options.specs.declared.options.SymbolPlace.{SymbolPlace}
use Rattle.text_options.specs.declared.options.SymbolPlace.TheVariants.{Instead, Behind, Comment, BehindOrComment}
use Rattle.text_options.specs.declared.options.Comments.TheVariants.{Named, Distances}
use Rattle.text_options.specs.declared.view.View.{View}
use Rattle.text_options.specs.Answers.{Answer, Answers}
use Rattle.text_options.specs.Values.{digits, pointer_front, value}

-- what a resolver answers at a number: only targets and addresses are asked for
unfoldable pub asked : Answers → Number → Option Answer
asked names x = elim x.role [ role.Target ↦ names x.value | role.Address ↦ names x.value | _ ↦ None ]

-- a symbol: its name, and the offset unless it is 0
unfoldable pub symbol : View → Answer → List ℕ
symbol view s = s.name ++ (if s.offset == 0 then [] else codes "+" ++ digits view s.offset)

-- a symbol in angle brackets
unfoldable pub in_brackets : View → Answer → List ℕ
in_brackets view s = codes "<" ++ (symbol view s ++ codes ">")

-- what stays in front of a symbol that stands for an address: the instruction pointer that the operand is written with
unfoldable pub front : View → Number → List ℕ
front view x = elim x.role [
  | role.Address ↦ elim view.pointer [ None ↦ [] | Some r ↦ pointer_front view r false ]
  | _ ↦ []
]

-- where the symbol of a number is written
unfoldable pub place : View → Number → SymbolPlace
place view x = elim view.options.symbol_place [
  | BehindOrComment ↦ elim x.role [ role.Address ↦ Comment | _ ↦ Behind ]
  | _ ↦ view.options.symbol_place
]

-- a number of which the resolver knows a symbol
unfoldable pub named : View → Number → List ℕ → Answer → List ℕ
named view x cs s = elim (place view x) [
  | Instead ↦ front view x ++ symbol view s
  | Behind ↦ value view x cs ++ (codes " " ++ in_brackets view s)
  | _ ↦ value view x cs
]

-- a number, with its symbol if there is one
unfoldable pub resolved : View → Number → List ℕ → Option Answer → List ℕ
resolved view x cs None = value view x cs
resolved view x cs (Some s) = named view x cs s

-- the spaces and the address that a comment begins with
unfoldable pub noted_address : View → Number → List ℕ
noted_address view x = replicate view.options.comment_gap 32 ++ (codes "# " ++ hexadecimal x.value)

-- an address has a comment although it has no symbol: the options say so, and it is written as a distance
unfoldable pub notes_distance : View → Bool
notes_distance view = elim view.options.comments [ Named ↦ false | Distances ↦ is_some view.pointer ]

-- the comment of an address without a symbol
unfoldable pub noted_distance : View → Number → List ℕ
noted_distance view x = if notes_distance view then noted_address view x else []

-- the comment of an address: the address, and its symbol if there is one
unfoldable pub noted_symbol : View → Number → Option Answer → List ℕ
noted_symbol view x None = noted_distance view x
noted_symbol view x (Some s) = noted_address view x ++ (codes " " ++ in_brackets view s)

-- the comment of a number, where its symbol belongs into one
unfoldable pub noted : View → Number → Option Answer → List ℕ
noted view x s = elim (place view x) [ Comment ↦ noted_symbol view x s | _ ↦ [] ]

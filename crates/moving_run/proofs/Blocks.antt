-- How far the reading of the blocks has come.
use Rattle.std.proofs.Common.{◌≡◌, ℕ, ◌+◌, ◌-◌, ◌^◌, ◌<◌, ◌≤◌, Bool, true, false, List, [], ◌∷◌, ◌++◌, length, Option, Some, None, refl, sym, ap, ◌∙◌, subst, arith, append_assoc, append-nil, length-append}
use Rattle.std.specs.Prelude.{All, ◌==◌, if◌then◌else◌}
use Rattle.std.proofs.lemmas.Bool.{ne_eqb, ltb-false}
use Rattle.std.proofs.lemmas.List.Elements.{All-head, All-tail}
use Rattle.x86_values.specs.declared.Bits.{Bits}
use Rattle.x86_values.specs.declared.Bits.TheVariants.{B16, B32, B64}
use Rattle.x86_values.specs.Wrapping.{width}
use Rattle.row_relation.specs.Spells.{Reading, Read, TooShort, Invalid}
use Rattle.decoder.specs.declared.DecodeError.{DecodeError}
use Rattle.opcode_rows.specs.Sweep.{Item}
use Rattle.sweep.specs.SweepText.Lines.{error_of}
use Rattle.branch_sizes.specs.declared.plan.BlockSpan.{BlockSpan}
use Rattle.move_goals.specs.declared.items.Placed.{Placed}
use Rattle.move_goals.specs.Items.{passes}
use Rattle.moving_run.specs.declared.command_words.commands.BlockWords.{BlockWords}
use Rattle.moving_run.specs.declared.code.Code.{Code}
use Rattle.moving_run.specs.declared.code.CodeError.{CodeError}
use Rattle.moving_run.specs.declared.code.CodeError.TheVariants.{BadCode, Memory}
use Rattle.moving_run.specs.Code.{next_block_bytes, left_by, IsInstruction, AreSwept, IsBadAt, here, later, placed_by, placed_in, all_placed, all_spans}
use Rattle.moving_run.specs.Ends.{first_pass, block_end}
use Rattle.moving_run.specs.Read.{first_items, ReadsBlock, IsBlockError, IsCode, IsCodeError}
use Rattle.moving_run.proofs.Cutting.{cut_length}
use Rattle.moving_run.proofs.Reading.{first_items-append, first_items-nil}

-- ---- the instructions of a block

placed_one : (base : ℕ) (offset : ℕ) (reading : Reading) → error_of reading ≡ None → length (placed_by base offset reading) ≡ 1
placed_one base offset (Read d) e = refl
placed_one base offset TooShort e = absurd (cc)
placed_one base offset Invalid e = absurd (cc)

-- a block has an instruction for each of its items
pub placed_length : (base : ℕ) (items : List Item) → All IsInstruction items → length (placed_in base items) ≡ length items
placed_length base [] all = refl
placed_length base (item ∷ items) all =
    omega (
      arith,
      length-append (placed_by base item.offset item.reading) (placed_in base items),
      placed_one base item.offset item.reading (All-head IsInstruction item items all),
      placed_length base items (All-tail IsInstruction item items all),
    )

-- ---- old ends

none_or : (passing : Bool) (end : ℕ) (other : Option ℕ) → (if passing then Some end else other) ≡ None → (passing ≡ false) × (other ≡ None)
none_or true end other h = absurd (cc)
none_or false end other h = (refl, h)

width_most : (bits : Bits) → 2 ^ width bits ≤ 2 ^ 64
width_most B16 = omega arith
width_most B32 = omega arith
width_most B64 = omega arith

-- where no end passes, the addresses of the first block do not wrap, and no end of the others passes
pub no_pass : (bits : Bits) (w : BlockWords) (ws : List BlockWords) (bytes : List ℕ) → first_pass bits (w ∷ ws) bytes ≡ None →
    (0 < length (next_block_bytes w.len bytes) → w.old + length (next_block_bytes w.len bytes) ≤ 2 ^ 64) × (first_pass bits ws (left_by w.len bytes) ≡ None)
no_pass bits w ws bytes h =
    let n = length (next_block_bytes w.len bytes) in
    let parts = none_or (passes bits (block_end w n)) (block_end w n) (first_pass bits ws (left_by w.len bytes)) h in (
      λ some.
          let not_empty : (n == 0) ≡ false = ne_eqb n 0 (λ e. omega arith) in
          let end_is : block_end w n ≡ w.old + n = ap (λ (b : Bool). if b then w.new else w.old + n) not_empty in
          omega (arith, ltb-false (2 ^ width bits) (block_end w n) parts.0, end_is, width_most bits),
      parts.1,
    )

-- ---- the way through the blocks

-- some first blocks were read, and what follows them is the rest
pub record BlocksBegun (bits : Bits) (words : List BlockWords) (bytes : List ℕ) (ws : List BlockWords) (rest : List ℕ) (kept : List Placed) (spans : List BlockSpan) (count : ℕ) : Type 0 where
  pub items : List (List Item)
  pub placed : List Placed
  pub within : length rest ≤ length bytes
  pub go_on : (more : List (List Item)) → AreSwept bits ws rest more → AreSwept bits words bytes (items ++ more)
  pub bad : (at : ℕ) (error : DecodeError) → IsBadAt bits ws rest (length bytes - length rest) at error → IsBadAt bits words bytes 0 at error
  pub placed_are : (more : List (List Item)) → all_placed words (items ++ more) ≡ placed ++ all_placed ws more
  pub spans_are : (more : List (List Item)) → all_spans words (items ++ more) ≡ spans ++ all_spans ws more
  pub no_pass : first_pass bits words bytes ≡ None → first_pass bits ws rest ≡ None
  pub kept_are : first_pass bits words bytes ≡ None → kept ≡ first_items placed
  pub count_is : count ≡ length placed
  pub few : count + length rest ≤ length bytes
  pub room : length kept ≤ 65536

-- before the first block nothing is kept
pub blocks-start : (bits : Bits) (words : List BlockWords) (bytes : List ℕ) (kept : List Placed) (spans : List BlockSpan) → kept ≡ [] → spans ≡ [] →
    BlocksBegun bits words bytes words bytes kept spans 0
blocks-start bits words bytes kept spans no_kept no_spans =
    let none : length bytes - length bytes ≡ 0 = omega arith in
    record {
      items = [];
      placed = [];
      within = omega arith;
      go_on = λ more swept. swept;
      bad = λ at error b. subst (λ (n : ℕ). IsBadAt bits words bytes n at error) none b;
      placed_are = λ more. refl;
      spans_are = λ more. ap (λ (xs : List BlockSpan). xs ++ all_spans words more) (sym no_spans);
      no_pass = λ h. h;
      kept_are = λ h. no_kept ∙ sym first_items-nil;
      count_is = refl;
      few = omega arith;
      room = omega (arith, ap length no_kept);
    }

-- one more block
pub blocks-step : (bits : Bits) (words : List BlockWords) (bytes : List ℕ) (w : BlockWords) (ws : List BlockWords) (rest : List ℕ) (kept kept' : List Placed) (spans : List BlockSpan) (count found : ℕ) →
    BlocksBegun bits words bytes (w ∷ ws) rest kept spans count → ReadsBlock bits w.old (next_block_bytes w.len rest) kept kept' found → length kept' ≤ 65536 →
    BlocksBegun bits words bytes ws (left_by w.len rest) kept' (spans ++ record { count = found; new_base = w.new } ∷ []) (count + found)
blocks-step bits words bytes w ws rest kept kept' spans count found b r room =
    let size = cut_length w.len rest in
    let within = b.within in
    let few = b.few in
    let old = placed_in w.old r.items in
    let span : BlockSpan = record { count = found; new_base = w.new } in
    let here_at : length bytes - length rest + length (next_block_bytes w.len rest) ≡ length bytes - length (left_by w.len rest) = omega arith in
    record {
      items = b.items ++ r.items ∷ [];
      placed = b.placed ++ old;
      within = omega arith;
      go_on = λ more swept.
          let T : List (List Item) → Type 0 = λ xs. AreSwept bits words bytes xs in
          subst T (sym (append_assoc b.items (r.items ∷ []) more)) (b.go_on (r.items ∷ more) (r.sweep, r.all, swept));
      bad = λ at error bad.
          let B : ℕ → Type 0 = λ n. IsBadAt bits ws (left_by w.len rest) n at error in
          b.bad at error (later (record { items = r.items; sweep = r.sweep; all = r.all }) (subst B (sym here_at) bad));
      placed_are = λ more.
          ap (all_placed words) (append_assoc b.items (r.items ∷ []) more)
          ∙ (b.placed_are (r.items ∷ more) ∙ sym (append_assoc b.placed old (all_placed ws more)));
      spans_are = λ more.
          ap (all_spans words) (append_assoc b.items (r.items ∷ []) more)
          ∙ (b.spans_are (r.items ∷ more)
          ∙ (ap (λ (n : ℕ). spans ++ record { count = n; new_base = w.new } ∷ all_spans ws more) (sym r.count_is)
          ∙ sym (append_assoc spans (span ∷ []) (all_spans ws more))));
      no_pass = λ h. (no_pass bits w ws rest (b.no_pass h)).1;
      kept_are = λ h.
          r.kept (no_pass bits w ws rest (b.no_pass h)).0
          ∙ (ap (λ (xs : List Placed). first_items (xs ++ old)) (b.kept_are h)
          ∙ first_items-append b.placed old);
      count_is = omega (arith, b.count_is, r.count_is, length-append b.placed old, placed_length w.old r.items r.all);
      few = omega (arith, r.few);
      room = room;
    }

-- all blocks
pub blocks-end : (bits : Bits) (words : List BlockWords) (bytes rest : List ℕ) (code : Code) →
    BlocksBegun bits words bytes [] rest code.items.items code.spans.items code.count → IsCode bits words bytes code
blocks-end bits words bytes rest code b =
    let whole : all_placed words b.items ≡ b.placed = sym (ap (all_placed words) (append-nil b.items)) ∙ (b.placed_are [] ∙ append-nil b.placed) in
    record {
      items = b.items;
      swept = subst (λ (xs : List (List Item)). AreSwept bits words bytes xs) (append-nil b.items) (b.go_on [] tt);
      count_is = b.count_is ∙ ap length (sym whole);
      spans_are = sym (sym (ap (all_spans words) (append-nil b.items)) ∙ (b.spans_are [] ∙ append-nil code.spans.items));
      kept = λ h. b.kept_are h ∙ ap first_items (sym whole);
    }

-- a block that is not read
pub blocks-stop : (bits : Bits) (words : List BlockWords) (bytes : List ℕ) (w : BlockWords) (ws : List BlockWords) (rest : List ℕ) (kept : List Placed) (spans : List BlockSpan) (count start : ℕ) (e : CodeError) →
    BlocksBegun bits words bytes (w ∷ ws) rest kept spans count → start ≡ length bytes - length rest → IsBlockError bits w.old start (next_block_bytes w.len rest) e →
    IsCodeError bits words bytes e
blocks-stop bits words bytes w ws rest kept spans count start Memory b at h = tt
blocks-stop bits words bytes w ws rest kept spans count start (BadCode offset error) b at h =
    let place : length bytes - length rest + h.0 ≡ offset = omega (arith, h.1.1) in
    let B : ℕ → Type 0 = λ n. IsBadAt bits (w ∷ ws) rest (length bytes - length rest) n error in
    b.bad offset error (subst B place (here h.1.0))

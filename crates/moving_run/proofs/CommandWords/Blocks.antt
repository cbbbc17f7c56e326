-- The words of blocks, one block at a time.
use Rattle.std.proofs.Common.{◌≡◌, ℕ, zero, suc, ◌+◌, ◌*◌, ◌≤◌, List, [], ◌∷◌, ◌++◌, drop, length, Option, Some, None, Result, Ok, Err, true, false, refl, ap, arith, add-one, length-drop, sym, ◌∙◌}
use Rattle.std.proofs.lemmas.List.{drop-drop}
use Rattle.std.specs.Prelude.{is_some}
use Rattle.std.specs.Borrow.{Bor}
use Rattle.x86_values.specs.declared.Bits.{Bits}
use Rattle.moving_run.specs.declared.command_words.commands.Command.{Command}
use Rattle.moving_run.specs.declared.command_words.commands.Command.TheVariants.{Blocks, Wrong}
use Rattle.moving_run.specs.declared.command_words.commands.BlockWords.{BlockWords}
use Rattle.moving_run.specs.CommandWords.Words.{texts, number_word, address_within, block_len, block_new, block_old, block_at, blocks_from}

-- ---- the texts of the words behind some

-- there is a text for each word
pub texts-length : (words : List (Bor (List ℕ))) → length (texts words) ≡ length words
texts-length [] = refl
texts-length (word ∷ words) = ap suc (texts-length words)

-- dropping words drops their texts
pub texts-drop : (n : ℕ) (words : List (Bor (List ℕ))) → texts (drop n words) ≡ drop n (texts words)
texts-drop zero words = refl
texts-drop (suc n) [] = refl
texts-drop (suc n) (word ∷ words) = texts-drop n words

-- ---- an optional number by its test

none-of : (o : Option ℕ) → is_some o ≡ false → o ≡ None
none-of None test = refl
none-of (Some n) test = absurd cc

some-of : (o : Option ℕ) → is_some o ≡ true → (n : ℕ) × (o ≡ Some n)
some-of None test = absurd cc
some-of (Some n) test = (n, refl)

-- ---- a block with a length takes three words

new-words : (old : ℕ) (new : Option ℕ) (words : List (List ℕ)) (block : BlockWords) (n : ℕ) → block_new old new words ≡ Ok block → block.len ≡ Some n →
    1 ≤ length words
unfolding block_new
new-words old None words block n read some = absurd cc
new-words old (Some new) [] block n read some = absurd cc
new-words old (Some new) (len ∷ words) block n read some = omega arith

old-words : (bits : Bits) (old : Option ℕ) (words : List (List ℕ)) (block : BlockWords) (n : ℕ) → block_old bits old words ≡ Ok block → block.len ≡ Some n →
    2 ≤ length words
unfolding block_old
old-words bits None words block n read some = absurd cc
old-words bits (Some old) [] block n read some = absurd cc
old-words bits (Some old) (new ∷ words) block n read some =
    omega (arith, new-words old (address_within bits (number_word new)) words block n read some)

three-words : (bits : Bits) (words : List (List ℕ)) (block : BlockWords) (n : ℕ) → block_at bits words ≡ Ok block → block.len ≡ Some n →
    3 ≤ length words
unfolding block_at
three-words bits [] block n read some = absurd cc
three-words bits (old ∷ words) block n read some =
    omega (arith, old-words bits (address_within bits (number_word old)) words block n read some)

-- the same of the three words behind those of some blocks
pub three_more : (bits : Bits) (words : List (Bor (List ℕ))) (count : ℕ) (block : BlockWords) → 3 * count ≤ length words →
    block_at bits (drop (3 * count) (texts words)) ≡ Ok block → is_some block.len ≡ true → 3 * (count + 1) ≤ length words
three_more bits words count block within read some =
    let told = some-of block.len some in
    let three = three-words bits (drop (3 * count) (texts words)) block told.0 read told.1 in
    omega (arith, texts-length words, length-drop (3 * count) (texts words))

-- ---- before the first wrong word of a block stand at most two

len-before : (old new : ℕ) (len : Option ℕ) (before : ℕ) → block_len old new len ≡ Err before → before ≤ 2
unfolding block_len
len-before old new None before read = let two : 2 ≡ before = cc in omega arith
len-before old new (Some len) before read = absurd cc

new-before : (old : ℕ) (new : Option ℕ) (words : List (List ℕ)) (before : ℕ) → block_new old new words ≡ Err before → before ≤ 2
unfolding block_new
new-before old None words before read = let one : 1 ≡ before = cc in omega arith
new-before old (Some new) [] before read = absurd cc
new-before old (Some new) (len ∷ words) before read = len-before old new (number_word len) before read

old-before : (bits : Bits) (old : Option ℕ) (words : List (List ℕ)) (before : ℕ) → block_old bits old words ≡ Err before → before ≤ 2
unfolding block_old
old-before bits None words before read = let none : 0 ≡ before = cc in omega arith
old-before bits (Some old) [] before read = let one : 1 ≡ before = cc in omega arith
old-before bits (Some old) (new ∷ words) before read = new-before old (address_within bits (number_word new)) words before read

-- at most two words of a block come before the wrong one
pub two_before : (bits : Bits) (words : List (List ℕ)) (before : ℕ) → block_at bits words ≡ Err before → before ≤ 2
unfolding block_at
two_before bits [] before read = let none : 0 ≡ before = cc in omega arith
two_before bits (old ∷ words) before read = old-before bits (address_within bits (number_word old)) words before read

-- ---- one more block

-- where no more may come
pub blocks-full : (room : ℕ) (bits : Bits) (blocks : List BlockWords) (words : List (List ℕ)) → room ≡ 0 → length blocks ≡ 16 →
    blocks_from room bits blocks words ≡ Wrong 50
unfolding blocks_from
blocks-full room bits blocks words none full =
    ap (λ (r : ℕ). blocks_from r bits blocks words) none ∙ ap (λ (n : ℕ). Wrong (2 + 3 * n)) full

-- at a word that is not allowed or missing
pub step-wrong : (room : ℕ) (bits : Bits) (blocks : List BlockWords) (words : List (List ℕ)) (before : ℕ) →
    block_at bits words ≡ Err before → blocks_from (suc room) bits blocks words ≡ Wrong (3 + 3 * length blocks + before)
unfolding blocks_from
step-wrong room bits blocks words before read = rw (read, blocks_from) refl

-- a block with a wrong word makes the command wrong there
pub blocks-wrong : (left room : ℕ) (bits : Bits) (blocks : List BlockWords) (words : List (List ℕ)) (before : ℕ) → left ≡ room + 1 →
    block_at bits words ≡ Err before → blocks_from left bits blocks words ≡ Wrong (3 + 3 * length blocks + before)
blocks-wrong left room bits blocks words before one read = rw (one, add-one) (step-wrong room bits blocks words before read)

-- at the last block
pub step-last : (room : ℕ) (bits : Bits) (blocks : List BlockWords) (words : List (List ℕ)) (block : BlockWords) →
    block_at bits words ≡ Ok block → is_some block.len ≡ false →
    blocks_from (suc room) bits blocks words ≡ Blocks bits (record { items = blocks ++ block ∷ [] })
unfolding blocks_from
step-last room bits blocks words block read last =
    let next : Option ℕ → Command = λ len. elim len as (λ _. Command) [
      | None ↦ Blocks bits (record { items = blocks ++ block ∷ [] })
      | Some _ ↦ blocks_from room bits (blocks ++ block ∷ []) (drop 3 words)
    ] in
    let told : blocks_from (suc room) bits blocks words ≡ next block.len = rw (read, blocks_from) refl in
    told ∙ ap next (none-of block.len last)

-- a block that ends the words is the last
pub blocks-last : (left room : ℕ) (bits : Bits) (blocks : List BlockWords) (words : List (List ℕ)) (block : BlockWords) → left ≡ room + 1 →
    block_at bits words ≡ Ok block → is_some block.len ≡ false → blocks_from left bits blocks words ≡ Blocks bits (record { items = blocks ++ block ∷ [] })
blocks-last left room bits blocks words block one read last = rw (one, add-one) (step-last room bits blocks words block read last)

-- at a block with a length
pub step-more : (room : ℕ) (bits : Bits) (blocks : List BlockWords) (words : List (List ℕ)) (block : BlockWords) →
    block_at bits words ≡ Ok block → is_some block.len ≡ true →
    blocks_from (suc room) bits blocks words ≡ blocks_from room bits (blocks ++ block ∷ []) (drop 3 words)
unfolding blocks_from
step-more room bits blocks words block read some =
    let next : Option ℕ → Command = λ len. elim len as (λ _. Command) [
      | None ↦ Blocks bits (record { items = blocks ++ block ∷ [] })
      | Some _ ↦ blocks_from room bits (blocks ++ block ∷ []) (drop 3 words)
    ] in
    let told : blocks_from (suc room) bits blocks words ≡ next block.len = rw (read, blocks_from) refl in
    told ∙ ap next (some-of block.len some).1

-- after any other the blocks go on
pub blocks-more : (left room : ℕ) (bits : Bits) (blocks : List BlockWords) (words : List (List ℕ)) (block : BlockWords) → left ≡ room + 1 →
    block_at bits words ≡ Ok block → is_some block.len ≡ true →
    blocks_from left bits blocks words ≡ blocks_from room bits (blocks ++ block ∷ []) (drop 3 words)
blocks-more left room bits blocks words block one read some = rw (one, add-one) (step-more room bits blocks words block read some)

-- what is read behind the words of some blocks
pub block_read : (bits : Bits) (words rest : List (Bor (List ℕ))) (count number : ℕ) (r : Result BlockWords ℕ) → number ≡ count → rest ≡ drop (3 * number) words →
    r ≡ block_at bits (texts rest) → block_at bits (drop (3 * count) (texts words)) ≡ r
block_read bits words rest count number r same behind read =
    let there : drop (3 * count) (texts words) ≡ texts rest =
    sym (texts-drop (3 * count) words) ∙ (ap (λ (n : ℕ). texts (drop (3 * n) words)) (sym same) ∙ ap texts (sym behind)) in
    ap (block_at bits) there ∙ sym read

-- the words behind one more block
pub drop_three : (words : List (List ℕ)) (count : ℕ) → drop 3 (drop (3 * count) words) ≡ drop (3 * (count + 1)) words
drop_three words count =
    let three : 3 * count + 3 ≡ 3 * (count + 1) = omega arith in drop-drop 3 (3 * count) words ∙ ap (λ (n : ℕ). drop n words) three

-- What an answer says of the bytes behind an opcode byte.
use Rattle.std.proofs.Common.{◌≡◌, inl, inr, ℕ, zero, suc, ◌+◌, ◌-◌, ◌/◌, ◌%◌, ◌<◌, ◌≤◌, Bool, true, false, ◌&&◌, List, [], ◌∷◌, ◌++◌, length, take, drop, Option, Some, None, Result, Ok, Err, refl, ap, sym, ◌∙◌, subst, arith, append_assoc, length-append, is_some, nat_lt, nat_le, get_or}
use Rattle.instruction_parts.proofs.Tests.{or_right}
use Rattle.std.proofs.Math.ListN.{replicate}
use Rattle.std.proofs.lemmas.List.{length-replicate, length-take-le, length-drop, take-append-drop}
use Rattle.std.proofs.lemmas.List.Folds.{list_any_at}
use Rattle.std.proofs.lemmas.Bool.{lt-ltb, leb-true, leb-false, and_parts, cases_Bool}
use Rattle.std.specs.List.{list_any, list_all}
use borrow.Author.Tests.{ltb-true}
use Rattle.x86_values.specs.declared.Bits.{Bits}
use Rattle.x86_values.specs.declared.Code.{Code}
use Rattle.x86_values.specs.declared.Decoded.{Decoded}
use Rattle.instruction_parts.specs.declared.row_types.Row.{Row}
use Rattle.instruction_parts.specs.declared.spelling.ModRm.{ModRm}
use Rattle.instruction_parts.specs.declared.spelling.Sib.{Sib}
use Rattle.instruction_parts.specs.declared.spelling.PrefixState.{PrefixState}
use Rattle.instruction_parts.specs.Sizes.{state_size}
use Rattle.instruction_parts.specs.Bytes.{modrm_bytes, sib_bytes, modrm_byte, sib_byte}
use Rattle.row_fit.specs.Fits.{immediates_bytes, are_bytes, modrm_in_range, sib_in_range, registers_fit, gather_fits, index_number}
use Rattle.row_fit.specs.Sound.{has_modrm_rule}
use Rattle.row_meaning.specs.Meaning.{tail, instr_of, next_address}
use Rattle.row_fit.proofs.TailLaws.{same_modrm_option, same_sib_option}
use Rattle.modrm_sib.specs.declared.TailError.{TailError}
use Rattle.modrm_sib.specs.declared.TailError.TheVariants.{Ended, Forbidden}
use Rattle.modrm_sib.specs.Parts.{modrm_of, sib_of, modrm_of_byte, sib_of_byte, takes_sib, displacement_len, parts_fit, some_sib_fits, modrm_can_fit, some_rm_fits, some_reg_fits, some_modrm_fits, some_of_three_bits}
use Rattle.modrm_sib.specs.Answer.{at_end, fitting_answer, rest_answer, sib_answer, behind_modrm_answer, modrm_answer, tail_answer}
use Rattle.modrm_sib.proofs.Tails.{both, asks_sib, TailFits, whole, modrm_is, are_bytes-left, are_bytes-right, are_bytes-both}

-- a fitting tail stands at the front, and gives the instruction and its length
pub record ReadTail (bits : Bits) (ip : ℕ) (state : PrefixState) (code : Code) (row : Row) (rest : List ℕ) (d : Decoded) : Type 0 where
  pub modrm : Option ModRm
  pub sib : Option Sib
  pub disp : List ℕ
  pub imm : List ℕ
  pub behind : List ℕ
  pub fitting : TailFits bits row state modrm sib disp imm
  pub bytes_are : rest ≡ whole modrm sib disp imm behind
  pub len_is : d.len ≡ state.used + 1 + length (modrm_bytes modrm ++ (sib_bytes sib ++ (disp ++ imm)))
  pub means : d.instr ≡ instr_of bits code row state (tail modrm sib disp (next_address bits ip d.len)) imm

-- no fitting tail stands at the front
abbrev pub NoTail : Bits → Row → PrefixState → List ℕ → Type 0
NoTail bits row state rest =
    (m : Option ModRm) (sib : Option Sib) (disp imm behind : List ℕ)
    → TailFits bits row state m sib disp imm → whole m sib disp imm behind ≡ rest → ⊥

-- whatever follows
abbrev pub NeverTail : Bits → Row → PrefixState → List ℕ → Type 0
NeverTail bits row state rest =
    (m : Option ModRm) (sib : Option Sib) (disp imm behind more : List ℕ)
    → TailFits bits row state m sib disp imm → whole m sib disp imm behind ≡ rest ++ more → ⊥

-- more bytes complete a fitting tail
pub record GoesOn (bits : Bits) (row : Row) (state : PrefixState) (rest : List ℕ) : Type 0 where
  pub modrm : Option ModRm
  pub sib : Option Sib
  pub disp : List ℕ
  pub imm : List ℕ
  pub more : List ℕ
  pub fitting : TailFits bits row state modrm sib disp imm
  pub some_more : 0 < length more
  pub bytes_are : modrm_bytes modrm ++ (sib_bytes sib ++ (disp ++ imm)) ≡ rest ++ more

-- what an answer says of the bytes behind the opcode byte
abbrev pub Tells : Bits → ℕ → PrefixState → Code → Row → List ℕ → Result Decoded TailError → Type 0
Tells bits ip state code row rest (Ok d) = ReadTail bits ip state code row rest d
Tells bits ip state code row rest (Err Ended) = NoTail bits row state rest × GoesOn bits row state rest
Tells bits ip state code row rest (Err Forbidden) = NeverTail bits row state rest

-- ---- ModRM and SIB are those of the bytes

-- what two tails with one ModRM and one SIB share
record Agreed (m n : Option ModRm) (sib t : Option Sib) (xs ys : List ℕ) : Type 0 where
  modrm : m ≡ n
  sib_is : sib ≡ t
  rest : xs ≡ ys

agreed : (bits : Bits) (row : Row) (state : PrefixState) (m n : Option ModRm) (sib t : Option Sib) (xs ys : List ℕ) → is_some m ≡ is_some n → is_some sib ≡ asks_sib bits row state m → is_some t ≡ asks_sib bits row state n → modrm_in_range m ≡ true → modrm_in_range n ≡ true → sib_in_range sib ≡ true → sib_in_range t ≡ true → modrm_bytes m ++ (sib_bytes sib ++ xs) ≡ modrm_bytes n ++ (sib_bytes t ++ ys) → Agreed m n sib t xs ys
agreed bits row state m n sib t xs ys alike hs ht hm hn rs rt e =
    let one = same_modrm_option m n _ _ alike hm hn e in
    let stands : is_some sib ≡ is_some t = hs ∙ ap (asks_sib bits row state) one.0 ∙ sym ht in
    let two = same_sib_option sib t _ _ stands rs rt one.1 in
    record { modrm = one.0; sib_is = two.0; rest = two.1 }

-- ---- displacement and immediates

zeros-bytes : (n : ℕ) → are_bytes (replicate n 0) ≡ true
zeros-bytes zero = refl
zeros-bytes (suc n) = zeros-bytes n

drop-bytes : (n : ℕ) (xs : List ℕ) → are_bytes xs ≡ true → are_bytes (drop n xs) ≡ true
drop-bytes n xs h = are_bytes-right (take n xs) (drop n xs) (subst (λ (x : List ℕ). are_bytes x ≡ true) (sym (take-append-drop n xs)) h)

take-bytes : (n : ℕ) (xs : List ℕ) → are_bytes xs ≡ true → are_bytes (take n xs) ≡ true
take-bytes n xs h = are_bytes-left (take n xs) (drop n xs) (subst (λ (x : List ℕ). are_bytes x ≡ true) (sym (take-append-drop n xs)) h)

-- what is fixed where ModRM and SIB were read
pub record Settled (bits : Bits) (row : Row) (state : PrefixState) (m : Option ModRm) (sib : Option Sib) : Type 0 where
  pub stands : is_some m ≡ has_modrm_rule row.modrm
  pub sib_is : is_some sib ≡ asks_sib bits row state m
  pub modrm_range : modrm_in_range m ≡ true
  pub sib_range : sib_in_range sib ≡ true

-- a fitting tail of the same bytes has the same ModRM and SIB
same_parts : (bits : Bits) (row : Row) (state : PrefixState) (m : Option ModRm) (sib : Option Sib) (bytes : List ℕ) → Settled bits row state m sib → (n : Option ModRm) (t : Option Sib) (d i behind more : List ℕ) → TailFits bits row state n t d i → whole n t d i behind ≡ (modrm_bytes m ++ (sib_bytes sib ++ bytes)) ++ more → Agreed n m t sib (d ++ (i ++ behind)) (bytes ++ more)
same_parts bits row state m sib bytes s n t d i behind more fit e =
    let f : whole n t d i behind ≡ modrm_bytes m ++ (sib_bytes sib ++ (bytes ++ more)) = e ∙ simp append_assoc in
    agreed bits row state n m t sib (d ++ (i ++ behind)) (bytes ++ more)
    (modrm_is bits row state n t fit.parts ∙ sym s.stands) fit.sib_is s.sib_is fit.modrm_range s.modrm_range fit.sib_range s.sib_range f

-- a tail that fits but for its lengths is completed by bytes of the right number
completed : (bits : Bits) (row : Row) (state : PrefixState) (m : Option ModRm) (sib : Option Sib) (bytes : List ℕ) → Settled bits row state m sib → parts_fit bits row state m sib ≡ true → are_bytes bytes ≡ true → length bytes ≡ displacement_len bits row state m sib + immediates_bytes (state_size bits row state) row → TailFits bits row state m sib (take (displacement_len bits row state m sib) bytes) (drop (displacement_len bits row state m sib) bytes)
completed bits row state m sib bytes s parts r l =
    let d = displacement_len bits row state m sib in
    record {
      parts = parts;
      sib_is = s.sib_is;
      disp_len = length-take-le d bytes (omega arith);
      imm_len = (let k = length-drop d bytes in omega arith);
      modrm_range = s.modrm_range;
      sib_range = s.sib_range;
      disp_bytes = take-bytes d bytes r;
      imm_bytes = drop-bytes d bytes r;
    }

-- too few bytes for displacement and immediates
short_tells : (bits : Bits) (row : Row) (state : PrefixState) (m : Option ModRm) (sib : Option Sib) (bytes : List ℕ) → Settled bits row state m sib → parts_fit bits row state m sib ≡ true → are_bytes bytes ≡ true → length bytes < displacement_len bits row state m sib + immediates_bytes (state_size bits row state) row → GoesOn bits row state (modrm_bytes m ++ (sib_bytes sib ++ bytes))
short_tells bits row state m sib bytes s parts r short =
    let d = displacement_len bits row state m sib in
    let n = d + immediates_bytes (state_size bits row state) row in
    let more = replicate (n - length bytes) 0 in
    let more_len : length more ≡ n - length bytes = length-replicate (n - length bytes) 0 in
    let all = bytes ++ more in
    let all_len = length-append bytes more in
    record {
      modrm = m;
      sib = sib;
      disp = take d all;
      imm = drop d all;
      more = more;
      fitting = completed bits row state m sib all s parts (are_bytes-both bytes more r (zeros-bytes (n - length bytes))) (omega arith);
      some_more = omega arith;
      bytes_are = ap (λ (x : List ℕ). modrm_bytes m ++ (sib_bytes sib ++ x)) (take-append-drop d all) ∙ simp append_assoc;
    }

-- and no fitting tail is so short
short_none : (bits : Bits) (row : Row) (state : PrefixState) (m : Option ModRm) (sib : Option Sib) (bytes : List ℕ) → Settled bits row state m sib → length bytes < displacement_len bits row state m sib + immediates_bytes (state_size bits row state) row → NoTail bits row state (modrm_bytes m ++ (sib_bytes sib ++ bytes))
short_none bits row state m sib bytes s short = λ n t d i behind fit e.
    let a = agreed bits row state n m t sib (d ++ (i ++ behind)) bytes
    (modrm_is bits row state n t fit.parts ∙ sym s.stands) fit.sib_is s.sib_is fit.modrm_range s.modrm_range fit.sib_range s.sib_range e in
    let dl : length d ≡ displacement_len bits row state m sib = fit.disp_len ∙ ap (λ (x : Option ModRm). displacement_len bits row state x t) a.modrm ∙ ap (λ (x : Option Sib). displacement_len bits row state m x) a.sib_is in
    let il = fit.imm_len in
    let l = ap length a.rest in
    let l1 = length-append d (i ++ behind) in
    let l2 = length-append i behind in
    absurd (omega arith)

-- behind a ModRM and a SIB that fit
fitting_tells : (bits : Bits) (ip : ℕ) (state : PrefixState) (code : Code) (row : Row) (m : Option ModRm) (sib : Option Sib) (used : ℕ) (bytes : List ℕ) → Settled bits row state m sib → parts_fit bits row state m sib ≡ true → are_bytes bytes ≡ true → used ≡ state.used + 1 + length (modrm_bytes m) + length (sib_bytes sib) → Tells bits ip state code row (modrm_bytes m ++ (sib_bytes sib ++ bytes)) (fitting_answer bits ip state code row m sib used bytes (displacement_len bits row state m sib) (immediates_bytes (state_size bits row state) row))
unfolding fitting_answer
fitting_tells bits ip state code row m sib used bytes s parts r u =
    let d = displacement_len bits row state m sib in
    let i = immediates_bytes (state_size bits row state) row in
    elim (cases_Bool (nat_le (d + i) (length bytes))) [
      | inl enough ↦
          let room : d + i ≤ length bytes = leb-true (d + i) (length bytes) enough in
          let disp = take d bytes in
          let behind_disp = drop d bytes in
          let imm = take i behind_disp in
          let behind_len = length-drop d bytes in
          let dl : length disp ≡ d = length-take-le d bytes (omega arith) in
          let il : length imm ≡ i = length-take-le i behind_disp (omega arith) in
          let l1 = length-append (modrm_bytes m) (sib_bytes sib ++ (disp ++ imm)) in
          let l2 = length-append (sib_bytes sib) (disp ++ imm) in
          let l3 = length-append disp imm in
          rw enough (record {
            modrm = m;
            sib = sib;
            disp = disp;
            imm = imm;
            behind = drop i behind_disp;
            fitting = record {
              parts = parts;
              sib_is = s.sib_is;
              disp_len = dl;
              imm_len = il;
              modrm_range = s.modrm_range;
              sib_range = s.sib_range;
              disp_bytes = take-bytes d bytes r;
              imm_bytes = take-bytes i behind_disp (drop-bytes d bytes r);
            };
            bytes_are = ap (λ (x : List ℕ). modrm_bytes m ++ (sib_bytes sib ++ x)) (sym (take-append-drop d bytes))
                ∙ ap (λ (x : List ℕ). modrm_bytes m ++ (sib_bytes sib ++ (disp ++ x))) (sym (take-append-drop i behind_disp));
            len_is = omega arith;
            means = refl;
          })
      | inr few ↦
          let short : length bytes < d + i = leb-false (d + i) (length bytes) few in
          rw few (short_none bits row state m sib bytes s short, short_tells bits row state m sib bytes s parts r short)
    ]

-- behind a ModRM and a SIB
rest_tells : (bits : Bits) (ip : ℕ) (state : PrefixState) (code : Code) (row : Row) (m : Option ModRm) (sib : Option Sib) (used : ℕ) (bytes : List ℕ) → Settled bits row state m sib → are_bytes bytes ≡ true → used ≡ state.used + 1 + length (modrm_bytes m) + length (sib_bytes sib) → Tells bits ip state code row (modrm_bytes m ++ (sib_bytes sib ++ bytes)) (rest_answer bits ip state code row m sib used bytes)
unfolding rest_answer
rest_tells bits ip state code row m sib used bytes s r u = elim (cases_Bool (parts_fit bits row state m sib)) [
  | inl fits ↦ rw fits (fitting_tells bits ip state code row m sib used bytes s fits r u)
  | inr other ↦ rw other (λ n t d i behind more fit e.
      let a = same_parts bits row state m sib bytes s n t d i behind more fit e in
      let f : parts_fit bits row state m sib ≡ true = sym (ap (λ (x : Option ModRm). parts_fit bits row state x t) a.modrm ∙ ap (λ (x : Option Sib). parts_fit bits row state m x) a.sib_is) ∙ fit.parts in
      cc)
]

-- ---- where the bytes end

-- a test of what can complete the bytes
at_end_tells : (bits : Bits) (ip : ℕ) (state : PrefixState) (code : Code) (row : Row) (rest : List ℕ) (test : Bool) → ((m : Option ModRm) (sib : Option Sib) (disp imm behind more : List ℕ) → TailFits bits row state m sib disp imm → whole m sib disp imm behind ≡ rest ++ more → test ≡ true) → (test ≡ true → GoesOn bits row state rest) → NoTail bits row state rest → Tells bits ip state code row rest (at_end test)
at_end_tells bits ip state code row rest true only goes none = (none, goes refl)
at_end_tells bits ip state code row rest false only goes none = λ m sib d i behind more fit e. (let k = only m sib d i behind more fit e in cc)

-- a number below a bound that passes
record Found (p : ℕ → Bool) (bound : ℕ) : Type 0 where
  number : ℕ
  below : number < bound
  passes : p number ≡ true

any-found : (p : ℕ → Bool) (bound : ℕ) (xs : List ℕ) → list_all (λ x. nat_lt x bound) xs ≡ true → list_any p xs ≡ true → Found p bound
any-found p bound [] all h = cc
any-found p bound (x ∷ xs) all h = elim (cases_Bool (p x)) [
  | inl here ↦ record { number = x; below = ltb-true x bound (and_parts (nat_lt x bound) (list_all (λ x. nat_lt x bound) xs) all).0; passes = here }
  | inr other ↦ any-found p bound xs (and_parts (nat_lt x bound) (list_all (λ x. nat_lt x bound) xs) all).1 (or_right (p x) (list_any p xs) other h)
]

eight-at : (n : ℕ) → n < 8 → get_or (0 ∷ 1 ∷ 2 ∷ 3 ∷ 4 ∷ 5 ∷ 6 ∷ 7 ∷ []) n 0 ≡ n
eight-at zero h = refl
eight-at (suc zero) h = refl
eight-at (suc (suc zero)) h = refl
eight-at (suc (suc (suc zero))) h = refl
eight-at (suc (suc (suc (suc zero)))) h = refl
eight-at (suc (suc (suc (suc (suc zero))))) h = refl
eight-at (suc (suc (suc (suc (suc (suc zero)))))) h = refl
eight-at (suc (suc (suc (suc (suc (suc (suc zero))))))) h = refl
eight-at (suc (suc (suc (suc (suc (suc (suc (suc n)))))))) h = absurd (omega arith)

four-at : (n : ℕ) → n < 4 → get_or (0 ∷ 1 ∷ 2 ∷ 3 ∷ []) n 0 ≡ n
four-at zero h = refl
four-at (suc zero) h = refl
four-at (suc (suc zero)) h = refl
four-at (suc (suc (suc zero))) h = refl
four-at (suc (suc (suc (suc n)))) h = absurd (omega arith)

some_of_eight : (p : ℕ → Bool) (n : ℕ) → n < 8 → p n ≡ true → some_of_three_bits p ≡ true
some_of_eight p n h e = list_any_at p (0 ∷ 1 ∷ 2 ∷ 3 ∷ 4 ∷ 5 ∷ 6 ∷ 7 ∷ []) n 0 h (ap p (eight-at n h) ∙ e)

some_of_four : (p : ℕ → Bool) (n : ℕ) → n < 4 → p n ≡ true → list_any p (0 ∷ 1 ∷ 2 ∷ 3 ∷ []) ≡ true
some_of_four p n h e = list_any_at p (0 ∷ 1 ∷ 2 ∷ 3 ∷ []) n 0 h (ap p (four-at n h) ∙ e)

-- of a SIB only the index decides
index_decides : (bits : Bits) (row : Row) (state : PrefixState) (m : Option ModRm) (s : Sib) → parts_fit bits row state m (Some s) ≡ parts_fit bits row state m (Some (sib_of 0 s.index 0))
unfolding parts_fit registers_fit gather_fits index_number
index_decides bits row state m s = refl

sib_fields : (s : Sib) → sib_in_range (Some s) ≡ true → s.index < 8
unfolding sib_in_range
sib_fields s h = ltb-true s.index 8 (and_parts (nat_lt s.index 8) (nat_lt s.base 8) (and_parts (nat_lt s.scale 4) (nat_lt s.index 8 && nat_lt s.base 8) h).1).0

-- a fitting SIB is one of those that are tried
sib_tried : (bits : Bits) (row : Row) (state : PrefixState) (m : ModRm) (sib : Option Sib) → is_some sib ≡ true → sib_in_range sib ≡ true → parts_fit bits row state (Some m) sib ≡ true → some_sib_fits bits row state m ≡ true
unfolding some_sib_fits
sib_tried bits row state m None some r h = cc
sib_tried bits row state m (Some s) some r h =
    some_of_eight (λ index. parts_fit bits row state (Some m) (Some (sib_of 0 index 0))) s.index (sib_fields s r) (sym (index_decides bits row state (Some m) s) ∙ h)

-- what is settled by a ModRM that takes a SIB
settled_sib : (bits : Bits) (row : Row) (state : PrefixState) (m : ModRm) (s : Sib) → has_modrm_rule row.modrm ≡ true → takes_sib bits row state m ≡ true → modrm_in_range (Some m) ≡ true → sib_in_range (Some s) ≡ true → Settled bits row state (Some m) (Some s)
settled_sib bits row state m s has takes r rs = record { stands = sym has; sib_is = sym takes; modrm_range = r; sib_range = rs }

settled_alone : (bits : Bits) (row : Row) (state : PrefixState) (m : ModRm) → has_modrm_rule row.modrm ≡ true → takes_sib bits row state m ≡ false → modrm_in_range (Some m) ≡ true → Settled bits row state (Some m) None
unfolding sib_in_range
settled_alone bits row state m has takes r = record { stands = sym has; sib_is = sym takes; modrm_range = r; sib_range = refl }

tried_sib : (n : ℕ) → n < 8 → sib_in_range (Some (sib_of 0 n 0)) ≡ true
unfolding sib_in_range
tried_sib n h = both (nat_lt n 8) _ (lt-ltb n 8 h) refl

-- as many zero bytes as displacement and immediates have
abbrev zeros : Bits → Row → PrefixState → Option ModRm → Option Sib → List ℕ
zeros bits row state m sib = replicate (displacement_len bits row state m sib + immediates_bytes (state_size bits row state) row) 0

-- a fitting ModRM and SIB go on where they do not stand yet
goes_on : (bits : Bits) (row : Row) (state : PrefixState) (m : Option ModRm) (sib : Option Sib) (rest more : List ℕ) → Settled bits row state m sib → parts_fit bits row state m sib ≡ true → 0 < length more → modrm_bytes m ++ (sib_bytes sib ++ zeros bits row state m sib) ≡ rest ++ more → GoesOn bits row state rest
goes_on bits row state m sib rest more s parts some e =
    let d = displacement_len bits row state m sib in
    let n = d + immediates_bytes (state_size bits row state) row in
    let z = zeros bits row state m sib in
    record {
      modrm = m;
      sib = sib;
      disp = take d z;
      imm = drop d z;
      more = more;
      fitting = completed bits row state m sib z s parts (zeros-bytes n) (length-replicate n 0);
      some_more = some;
      bytes_are = ap (λ (x : List ℕ). modrm_bytes m ++ (sib_bytes sib ++ x)) (take-append-drop d z) ∙ e;
    }

some_after : (x : ℕ) (xs : List ℕ) → 0 < length (x ∷ xs)
some_after x xs = omega arith

-- the bytes end behind a ModRM that takes a SIB
sib_goes_on : (bits : Bits) (row : Row) (state : PrefixState) (m : ModRm) → has_modrm_rule row.modrm ≡ true → takes_sib bits row state m ≡ true → modrm_in_range (Some m) ≡ true → some_sib_fits bits row state m ≡ true → GoesOn bits row state (modrm_bytes (Some m) ++ [])
unfolding some_sib_fits
sib_goes_on bits row state m has takes r h =
    let f = any-found (λ index. parts_fit bits row state (Some m) (Some (sib_of 0 index 0))) 8 (0 ∷ 1 ∷ 2 ∷ 3 ∷ 4 ∷ 5 ∷ 6 ∷ 7 ∷ []) refl h in
    let s = sib_of 0 f.number 0 in
    goes_on bits row state (Some m) (Some s) (modrm_bytes (Some m) ++ []) (sib_byte s ∷ zeros bits row state (Some m) (Some s))
    (settled_sib bits row state m s has takes r (tried_sib f.number f.below)) f.passes (some_after (sib_byte s) (zeros bits row state (Some m) (Some s))) refl

none_short : (sib : Option Sib) (xs : List ℕ) → is_some sib ≡ true → sib_bytes sib ++ xs ≡ [] → ⊥
none_short None xs some e = cc
none_short (Some s) xs some e = cc

sib_end_tells : (bits : Bits) (ip : ℕ) (state : PrefixState) (code : Code) (row : Row) (m : ModRm) → has_modrm_rule row.modrm ≡ true → takes_sib bits row state m ≡ true → modrm_in_range (Some m) ≡ true → Tells bits ip state code row (modrm_bytes (Some m) ++ []) (at_end (some_sib_fits bits row state m))
sib_end_tells bits ip state code row m has takes r =
    at_end_tells bits ip state code row (modrm_bytes (Some m) ++ []) (some_sib_fits bits row state m)
    (λ n t d i behind more fit e.
    let one = same_modrm_option n (Some m) (sib_bytes t ++ (d ++ (i ++ behind))) more (modrm_is bits row state n t fit.parts ∙ has) fit.modrm_range r e in
    let some : is_some t ≡ true = fit.sib_is ∙ ap (asks_sib bits row state) one.0 ∙ takes in
    sib_tried bits row state m t some fit.sib_range (subst (λ (x : Option ModRm). parts_fit bits row state x t ≡ true) one.0 fit.parts))
    (sib_goes_on bits row state m has takes r)
    (λ n t d i behind fit e.
    let one = same_modrm_option n (Some m) (sib_bytes t ++ (d ++ (i ++ behind))) [] (modrm_is bits row state n t fit.parts ∙ has) fit.modrm_range r e in
    let some : is_some t ≡ true = fit.sib_is ∙ ap (asks_sib bits row state) one.0 ∙ takes in
    none_short t (d ++ (i ++ behind)) some one.1)

-- ---- the fields of a byte

modrm-byte : (b : ℕ) → b < 256 → modrm_byte (modrm_of_byte b) ≡ b
unfolding modrm_of_byte
modrm-byte b h = omega arith

sib-byte : (b : ℕ) → b < 256 → sib_byte (sib_of_byte b) ≡ b
unfolding sib_of_byte
sib-byte b h = omega arith

-- the fields of a ModRM byte are in range
pub modrm-range : (b : ℕ) → b < 256 → modrm_in_range (Some (modrm_of_byte b)) ≡ true
unfolding modrm_of_byte modrm_in_range
modrm-range b h =
    both (nat_lt (b / 64) 4) _ (lt-ltb (b / 64) 4 (omega arith))
    (both (nat_lt (b / 8 % 8) 8) _ (lt-ltb (b / 8 % 8) 8 (omega arith)) (lt-ltb (b % 8) 8 (omega arith)))

-- the fields of a SIB byte are in range
pub sib-range : (b : ℕ) → b < 256 → sib_in_range (Some (sib_of_byte b)) ≡ true
unfolding sib_of_byte sib_in_range
sib-range b h =
    both (nat_lt (b / 64) 4) _ (lt-ltb (b / 64) 4 (omega arith))
    (both (nat_lt (b / 8 % 8) 8) _ (lt-ltb (b / 8 % 8) 8 (omega arith)) (lt-ltb (b % 8) 8 (omega arith)))

-- the ranges of a ModRM's fields
record ModRmRange (m : ModRm) : Type 0 where
  mode3 : m.mode3 < 4
  reg : m.reg < 8
  rm : m.rm < 8

modrm_fields : (m : ModRm) → modrm_in_range (Some m) ≡ true → ModRmRange m
unfolding modrm_in_range
modrm_fields m h =
    let r = (and_parts (nat_lt m.mode3 4) (nat_lt m.reg 8 && nat_lt m.rm 8) h).1 in
    record {
      mode3 = ltb-true m.mode3 4 (and_parts (nat_lt m.mode3 4) (nat_lt m.reg 8 && nat_lt m.rm 8) h).0;
      reg = ltb-true m.reg 8 (and_parts (nat_lt m.reg 8) (nat_lt m.rm 8) r).0;
      rm = ltb-true m.rm 8 (and_parts (nat_lt m.reg 8) (nat_lt m.rm 8) r).1;
    }

modrm_from : (mode3 reg rm : ℕ) → mode3 < 4 → reg < 8 → rm < 8 → modrm_in_range (Some (modrm_of mode3 reg rm)) ≡ true
unfolding modrm_in_range
modrm_from mode3 reg rm a b c =
    both (nat_lt mode3 4) _ (lt-ltb mode3 4 a) (both (nat_lt reg 8) _ (lt-ltb reg 8 b) (lt-ltb rm 8 c))

-- ---- the bytes end where a ModRM stands

-- a fitting ModRM is one of those that are tried
modrm_tried : (bits : Bits) (row : Row) (state : PrefixState) (m : ModRm) → modrm_in_range (Some m) ≡ true → modrm_can_fit bits row state m ≡ true → some_modrm_fits bits row state ≡ true
unfolding some_modrm_fits some_reg_fits some_rm_fits
modrm_tried bits row state m r h =
    let f = modrm_fields m r in
    some_of_four (λ mode3. some_of_three_bits (λ reg. some_of_three_bits (λ rm. modrm_can_fit bits row state (modrm_of mode3 reg rm)))) m.mode3 f.mode3
    (some_of_eight (λ reg. some_of_three_bits (λ rm. modrm_can_fit bits row state (modrm_of m.mode3 reg rm))) m.reg f.reg
    (some_of_eight (λ rm. modrm_can_fit bits row state (modrm_of m.mode3 m.reg rm)) m.rm f.rm h))

none_of : (t : Option Sib) → is_some t ≡ false → t ≡ None
none_of None h = refl
none_of (Some s) h = cc

-- the ModRM of a fitting tail can fit
tail_can_fit : (bits : Bits) (row : Row) (state : PrefixState) (m : ModRm) (t : Option Sib) → is_some t ≡ takes_sib bits row state m → sib_in_range t ≡ true → parts_fit bits row state (Some m) t ≡ true → modrm_can_fit bits row state m ≡ true
unfolding modrm_can_fit
tail_can_fit bits row state m t stands r h = elim (cases_Bool (takes_sib bits row state m)) [
  | inl takes ↦ rw takes (sib_tried bits row state m t (stands ∙ takes) r h)
  | inr alone ↦ rw alone (subst (λ (x : Option Sib). parts_fit bits row state (Some m) x ≡ true) (none_of t (stands ∙ alone)) h)
]

modrm_of_tail : (bits : Bits) (row : Row) (state : PrefixState) (m : Option ModRm) (t : Option Sib) → is_some m ≡ true → is_some t ≡ asks_sib bits row state m → modrm_in_range m ≡ true → sib_in_range t ≡ true → parts_fit bits row state m t ≡ true → some_modrm_fits bits row state ≡ true
modrm_of_tail bits row state None t some stands rm rs h = cc
modrm_of_tail bits row state (Some m) t some stands rm rs h =
    modrm_tried bits row state m rm (tail_can_fit bits row state m t stands rs h)

-- bytes that end in front of a ModRM that can fit go on
modrm_goes_on : (bits : Bits) (row : Row) (state : PrefixState) (m : ModRm) → has_modrm_rule row.modrm ≡ true → modrm_in_range (Some m) ≡ true → modrm_can_fit bits row state m ≡ true → GoesOn bits row state []
unfolding modrm_can_fit some_sib_fits
modrm_goes_on bits row state m has r h = elim (cases_Bool (takes_sib bits row state m)) [
  | inl takes ↦
      let k : some_sib_fits bits row state m ≡ true = rw takes at h in
      let f = any-found (λ index. parts_fit bits row state (Some m) (Some (sib_of 0 index 0))) 8 (0 ∷ 1 ∷ 2 ∷ 3 ∷ 4 ∷ 5 ∷ 6 ∷ 7 ∷ []) refl k in
      let s = sib_of 0 f.number 0 in
      goes_on bits row state (Some m) (Some s) [] (modrm_byte m ∷ (sib_byte s ∷ zeros bits row state (Some m) (Some s)))
      (settled_sib bits row state m s has takes r (tried_sib f.number f.below)) f.passes
      (some_after (modrm_byte m) (sib_byte s ∷ zeros bits row state (Some m) (Some s))) refl
  | inr alone ↦
      let k : parts_fit bits row state (Some m) None ≡ true = rw alone at h in
      goes_on bits row state (Some m) None [] (modrm_byte m ∷ zeros bits row state (Some m) None)
      (settled_alone bits row state m has alone r) k (some_after (modrm_byte m) (zeros bits row state (Some m) None)) refl
]

end_goes_on : (bits : Bits) (row : Row) (state : PrefixState) → has_modrm_rule row.modrm ≡ true → some_modrm_fits bits row state ≡ true → GoesOn bits row state []
unfolding some_modrm_fits some_reg_fits some_rm_fits
end_goes_on bits row state has h =
    let one = any-found (λ mode3. some_reg_fits bits row state mode3) 4 (0 ∷ 1 ∷ 2 ∷ 3 ∷ []) refl h in
    let two = any-found (λ reg. some_rm_fits bits row state one.number reg) 8 (0 ∷ 1 ∷ 2 ∷ 3 ∷ 4 ∷ 5 ∷ 6 ∷ 7 ∷ []) refl one.passes in
    let three = any-found (λ rm. modrm_can_fit bits row state (modrm_of one.number two.number rm)) 8 (0 ∷ 1 ∷ 2 ∷ 3 ∷ 4 ∷ 5 ∷ 6 ∷ 7 ∷ []) refl two.passes in
    modrm_goes_on bits row state (modrm_of one.number two.number three.number) has (modrm_from one.number two.number three.number one.below two.below three.below) three.passes

some_short : (m : Option ModRm) (xs : List ℕ) → is_some m ≡ true → modrm_bytes m ++ xs ≡ [] → ⊥
some_short None xs some e = cc
some_short (Some m) xs some e = cc

modrm_end_tells : (bits : Bits) (ip : ℕ) (state : PrefixState) (code : Code) (row : Row) → has_modrm_rule row.modrm ≡ true → Tells bits ip state code row [] (at_end (some_modrm_fits bits row state))
modrm_end_tells bits ip state code row has =
    at_end_tells bits ip state code row [] (some_modrm_fits bits row state)
    (λ n t d i behind more fit e.
    modrm_of_tail bits row state n t (modrm_is bits row state n t fit.parts ∙ has) fit.sib_is fit.modrm_range fit.sib_range fit.parts)
    (end_goes_on bits row state has)
    (λ n t d i behind fit e. some_short n (sib_bytes t ++ (d ++ (i ++ behind))) (modrm_is bits row state n t fit.parts ∙ has) e)

-- ---- part by part

byte_head : (b : ℕ) (bytes : List ℕ) → are_bytes (b ∷ bytes) ≡ true → b < 256
byte_head b bytes h = ltb-true b 256 (and_parts (nat_lt b 256) (are_bytes bytes) h).0

byte_tail : (b : ℕ) (bytes : List ℕ) → are_bytes (b ∷ bytes) ≡ true → are_bytes bytes ≡ true
byte_tail b bytes h = (and_parts (nat_lt b 256) (are_bytes bytes) h).1

sib_tells : (bits : Bits) (ip : ℕ) (state : PrefixState) (code : Code) (row : Row) (m : ModRm) (used : ℕ) (bytes : List ℕ) → has_modrm_rule row.modrm ≡ true → takes_sib bits row state m ≡ true → modrm_in_range (Some m) ≡ true → are_bytes bytes ≡ true → used ≡ state.used + 1 + 1 → Tells bits ip state code row (modrm_byte m ∷ bytes) (sib_answer bits ip state code row m used bytes)
unfolding sib_answer
sib_tells bits ip state code row m used [] has takes r rb u = sib_end_tells bits ip state code row m has takes r
sib_tells bits ip state code row m used (b ∷ bytes) has takes r rb u =
    let s = sib_of_byte b in
    let h = byte_head b bytes rb in
    subst (λ (x : ℕ). Tells bits ip state code row (modrm_byte m ∷ (x ∷ bytes)) (rest_answer bits ip state code row (Some m) (Some s) (used + 1) bytes)) (sib-byte b h)
    (rest_tells bits ip state code row (Some m) (Some s) (used + 1) bytes
    (settled_sib bits row state m s has takes r (sib-range b h)) (byte_tail b bytes rb) (omega arith))

behind_modrm_tells : (bits : Bits) (ip : ℕ) (state : PrefixState) (code : Code) (row : Row) (m : ModRm) (used : ℕ) (bytes : List ℕ) → has_modrm_rule row.modrm ≡ true → modrm_in_range (Some m) ≡ true → are_bytes bytes ≡ true → used ≡ state.used + 1 + 1 → Tells bits ip state code row (modrm_byte m ∷ bytes) (behind_modrm_answer bits ip state code row m used bytes)
unfolding behind_modrm_answer
behind_modrm_tells bits ip state code row m used bytes has r rb u = elim (cases_Bool (takes_sib bits row state m)) [
  | inl takes ↦ rw takes (sib_tells bits ip state code row m used bytes has takes r rb u)
  | inr alone ↦ rw alone (rest_tells bits ip state code row (Some m) None used bytes (settled_alone bits row state m has alone r) rb (omega arith))
]

modrm_tells : (bits : Bits) (ip : ℕ) (state : PrefixState) (code : Code) (row : Row) (used : ℕ) (bytes : List ℕ) → has_modrm_rule row.modrm ≡ true → are_bytes bytes ≡ true → used ≡ state.used + 1 → Tells bits ip state code row bytes (modrm_answer bits ip state code row used bytes)
unfolding modrm_answer
modrm_tells bits ip state code row used [] has rb u = modrm_end_tells bits ip state code row has
modrm_tells bits ip state code row used (b ∷ bytes) has rb u =
    let h = byte_head b bytes rb in
    subst (λ (x : ℕ). Tells bits ip state code row (x ∷ bytes) (behind_modrm_answer bits ip state code row (modrm_of_byte b) (used + 1) bytes)) (modrm-byte b h)
    (behind_modrm_tells bits ip state code row (modrm_of_byte b) (used + 1) bytes has (modrm-range b h) (byte_tail b bytes rb) (omega arith))

settled_none : (bits : Bits) (row : Row) (state : PrefixState) → has_modrm_rule row.modrm ≡ false → Settled bits row state None None
unfolding modrm_in_range sib_in_range
settled_none bits row state has = record { stands = sym has; sib_is = refl; modrm_range = refl; sib_range = refl }

-- **what the answer says of the bytes behind an opcode byte**
pub tail_tells : (bits : Bits) (ip : ℕ) (state : PrefixState) (code : Code) (row : Row) (bytes : List ℕ) → are_bytes bytes ≡ true → Tells bits ip state code row bytes (tail_answer bits ip state code row bytes)
unfolding tail_answer
tail_tells bits ip state code row bytes rb = elim (cases_Bool (has_modrm_rule row.modrm)) [
  | inl has ↦ rw has (modrm_tells bits ip state code row (state.used + 1) bytes has rb refl)
  | inr no_modrm ↦ rw no_modrm (rest_tells bits ip state code row None None (state.used + 1) bytes (settled_none bits row state no_modrm) rb (omega arith))
]

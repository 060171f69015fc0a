-- Reading back: what was arranged as a block is read as it was; and codes and residuals of words, by any predictors, give the words.
use mathlib.Core.Path.{◌≡◌, refl, sym, ap, ◌∙◌}
use mathlib.Core.List.{List, [], ◌∷◌, ◌++◌, map}
use mathlib.Core.Bool.{Bool, true, false, cond}
use Prim.Native.Nat.{ℕ, zero, suc, ◌+◌, ◌*◌, ◌/◌, ◌%◌, ◌^◌, ◌≤◌, ◌<◌}
use native.Mathlib.Omega.{arith}
use lib.Dec.{eqb}
use lib.ListN.{length, get_or, set, take, drop, replicate}
use lib.Seq.{take_at, drop_at, drop-drop, take-append_seam}
use borrow.Author.Tests.{le-leb, lt-leb, eqb-true}
use Rattle.words.specs.Words.{Words, sub64, add64, zero_bytes}
use Rattle.words.specs.Bytes.{Bytes, low_bytes, number}
use Rattle.words.proofs.Each.{Each, none, more}
use Rattle.words.proofs.Tests.{either}
use Rattle.words.proofs.Zeros.{zeros-at_most}
use Rattle.words.proofs.Xor.{xor_back, xor-word}
use Rattle.words.proofs.Bytes.{bytes-append, bytes_low, number_low}
use Rattle.block_rules.specs.Predictors.{Memory, cleared, fcm_prediction, dfcm_prediction, difference, learn}
use Rattle.block_rules.specs.Codes.{Choice, fcm_residual, dfcm_residual, low_three, written, coded_by, chosen, coded_word, coded_words, residual_bytes, decoded_word, decoded_words}
use Rattle.block_rules.specs.Block.{codes, code_bytes, all_residual_bytes, body, arranged, block_by, block, residuals_at, count, stated_length, halves, counted_codes, last_half, residual_length, with_residuals, coded_in, words_in}
use Rattle.block_rules.specs.Numbers.{filler_stands, form_number, block_number}
use Rattle.block_rules.specs.Forms.{names_dfcm, named, coded_naming, all_naming, block_naming, names_by}
use Rattle.block_rules.specs.Inside.{PacksAll, UnpacksAll}
use Rattle.block_rules.specs.declared.Coded.{Coded}
use Rattle.block_rules.proofs.Codes.{low_three_small, code-small, names-dfcm, names-fcm, coded_residual, coded_by_fits}
use Rattle.block_rules.proofs.Padded.{low_tight, Tight, none-padded}
use Rattle.block_rules.proofs.Lengths.{length_residual, length_residuals, length-codes, length-code_bytes, length-body, length-arranged, arranged-at_most}
use Rattle.block_rules.proofs.Accept.{whole_forms, counted}
use Rattle.block_rules.proofs.Order.{tight-takes}
use Rattle.block_rules.proofs.Get.{length-words}
use mathlib.Core.Path.{◌≡◌, refl, sym, ◌∙◌}
use mathlib.Core.Bool.{Bool, true, false, cond}
use mathlib.Core.List.{List, [], ◌∷◌}
use Prim.Native.Nat.{ℕ, zero, suc, ◌+◌, ◌*◌, ◌/◌, ◌%◌, ◌^◌, ◌≤◌, ◌<◌}
use lib.Dec.{eqb}
use lib.ListN.{get_or}
use Rattle.words.specs.Words.{zero_bytes}
use Rattle.words.specs.Bytes.{low_bytes}
use Rattle.words.proofs.Tests.{either}
use Rattle.words.proofs.Zeros.{zeros-at_most}
use Rattle.block_rules.specs.Codes.{low_three, written, coded_by, residual_bytes, padded}
use Rattle.block_rules.proofs.Codes.{low_three_small, coded_by_fits}

-- the code that is made for a residual is not padded
coded-tight : (b : Bool) (r : ℕ) → r < 2 ^ 64 → padded (coded_by b r) ≡ false
unfolding coded_by
coded-tight true r h = low_tight (coded_by true r) (coded_by_fits true r h) (omega (arith, low_three_small (zero_bytes r) (zeros-at_most r)))
coded-tight false r h = low_tight (coded_by false r) (coded_by_fits false r h) (omega (arith, low_three_small (zero_bytes r) (zeros-at_most r)))

-- ---- codes from their bytes

-- codes of four bits
abbrev pub FourBits : List ℕ → Type 0
FourBits cs = (i : ℕ) → get_or cs i 0 ≤ 15

codes_back : (cs rs : List ℕ) → FourBits cs → take (length cs) (halves (code_bytes cs ++ rs)) ≡ cs
codes_back [] rs h = refl
codes_back (c ∷ []) rs h =
    let e : (c * 16 + 7) / 16 ≡ c = omega arith in
    rw e
codes_back (c ∷ d ∷ cs) rs h =
    let e : (c * 16 + d) / 16 ≡ c = omega (arith, h 1) in
    let f : (c * 16 + d) % 16 ≡ d = omega (arith, h 1) in
    rw (e, f) (ap (λ (l : List ℕ). c ∷ d ∷ l) (codes_back cs rs (λ i. h (suc (suc i)))))

filler_back : (cs rs : List ℕ) → length cs % 2 ≡ 1 → get_or (halves (code_bytes cs ++ rs)) (length cs) 0 ≡ 7
filler_back [] rs o = absurd (omega arith)
filler_back (c ∷ []) rs o = omega arith
filler_back (c ∷ d ∷ cs) rs o = filler_back cs rs (omega arith)

cost_of : (cs : List Coded) → residual_length (codes cs) ≡ length (all_residual_bytes cs)
cost_of [] = refl
cost_of (c ∷ cs) = omega (arith, cost_of cs, length_residuals c cs)

-- ---- residuals from their bytes

-- residuals that fit the bytes that their codes write
abbrev pub Fit : List Coded → Type 0
Fit cs = Each (λ (c : Coded). c.residual < 256 ^ written c.code) cs

read_back : (c : Coded) → c.residual < 256 ^ written c.code → number (residual_bytes c) ≡ c.residual
unfolding residual_bytes
read_back c h = number_low _ _ h

residuals_back : (cs : List Coded) → Fit cs → with_residuals (codes cs) (all_residual_bytes cs) ≡ cs
residuals_back [] none = refl
residuals_back (c ∷ cs) (more h f) =
    let k = written c.code in
    let n : length (residual_bytes c) ≡ k = length_residual c in
    let e : number (take k (residual_bytes c ++ all_residual_bytes cs)) ≡ c.residual = ap number (take_at (residual_bytes c) (all_residual_bytes cs) k n) ∙ read_back c h in
    rw (e, drop_at (residual_bytes c) (all_residual_bytes cs) k n) (ap (λ (l : List Coded). c ∷ l) (residuals_back cs f))

-- ---- what is arranged is bytes

code_bytes_fit : (cs : List ℕ) → FourBits cs → Bytes (code_bytes cs)
code_bytes_fit [] h i = omega arith
code_bytes_fit (c ∷ []) h zero = omega (arith, h 0)
code_bytes_fit (c ∷ []) h (suc i) = omega arith
code_bytes_fit (c ∷ d ∷ cs) h zero = omega (arith, h 0, h 1)
code_bytes_fit (c ∷ d ∷ cs) h (suc i) = code_bytes_fit cs (λ j. h (suc (suc j))) i

residual_bytes_fit : (cs : List Coded) → Bytes (all_residual_bytes cs)
unfolding residual_bytes
residual_bytes_fit [] i = omega arith
residual_bytes_fit (c ∷ cs) i = bytes-append (residual_bytes c) (all_residual_bytes cs) (bytes_low (written c.code) c.residual) (residual_bytes_fit cs) i

arranged-bytes : (cs : List Coded) → FourBits (codes cs) → Bytes (arranged cs)
unfolding arranged body
arranged-bytes cs small =
    let counts = low_bytes 4 (length cs) in
    let states = low_bytes 4 (8 + length (body cs)) in
    let rest = bytes-append (code_bytes (codes cs)) (all_residual_bytes cs) (code_bytes_fit (codes cs) small) (residual_bytes_fit cs) in
    bytes-append counts (states ++ body cs) (bytes_low 4 (length cs)) (bytes-append states (body cs) (bytes_low 4 (8 + length (body cs))) rest)

-- ---- what was arranged is read back

module _ (cs : List Coded) (few : length cs ≤ 65536) (small : FourBits (codes cs)) where
  after_head : drop 8 (arranged cs) ≡ code_bytes (codes cs) ++ all_residual_bytes cs
  unfolding arranged body
  after_head = refl

  arranged-count : count (arranged cs) ≡ length cs
  unfolding arranged
  arranged-count = number_low 4 (length cs) (omega arith)

  arranged-stated : stated_length (arranged cs) ≡ 8 + length (body cs)
  unfolding arranged
  arranged-stated =
      let l : 8 + length (body cs) < 256 ^ 4 = omega (arith, length-body cs, length-arranged cs, arranged-at_most cs) in
      number_low 4 (8 + length (body cs)) l

  arranged-codes : counted_codes (arranged cs) ≡ codes cs
  unfolding counted_codes
  arranged-codes = rw (arranged-count, after_head, ← (length-codes cs)) (codes_back (codes cs) (all_residual_bytes cs) small)

  arranged_residuals : drop (residuals_at (length cs)) (arranged cs) ≡ all_residual_bytes cs
  arranged_residuals =
      sym (drop-drop ((length cs + 1) / 2) 8 (arranged cs))
      ∙ rw after_head (drop_at (code_bytes (codes cs)) (all_residual_bytes cs) ((length cs + 1) / 2) (length-code_bytes (codes cs) ∙ ap (λ (k : ℕ). (k + 1) / 2) (length-codes cs)))

  arranged-filler : filler_stands (arranged cs) ≡ true
  unfolding filler_stands last_half
  arranged-filler =
      rw (arranged-count, after_head, ← (length-codes cs))
      (either (eqb (length (codes cs) % 2) 1) (λ e. rw (e, filler_back (codes cs) (all_residual_bytes cs) (eqb-true _ _ e))) (λ e. rw e))

  -- it can be read
  arranged_forms : form_number (arranged cs) ≡ 0
  arranged_forms =
      whole_forms (arranged cs)
      (record {
        long = omega (arith, length-arranged cs);
        few = rw arranged-count few;
        stated = arranged-stated ∙ omega (arith, length-arranged cs, length-body cs);
        adds = rw (arranged-count, arranged-codes, cost_of) (length-arranged cs);
        filler = arranged-filler;
      })

  -- and reads as it was
  arranged_back : Fit cs → coded_in (arranged cs) ≡ cs
  unfolding coded_in
  arranged_back f = rw (arranged-count, arranged-codes, arranged_residuals) (residuals_back cs f)

  -- so where no code is padded, check takes it
  arranged-whole : Fit cs → Tight cs → block_number (arranged cs) ≡ 0
  arranged-whole f t = tight-takes (arranged cs) arranged_forms (rw (arranged_back f) (none-padded t))

-- ---- one word, by either predictor

-- the word comes back from its code and its residual
word_back : (m : Memory) (n : Bool) (v : ℕ) → decoded_word m (coded_naming m n v) ≡ v
unfolding coded_naming decoded_word fcm_residual dfcm_residual
word_back m true v = rw (names-dfcm m _, coded_residual) (xor_back v (dfcm_prediction m))
word_back m false v = rw (names-fcm m _, coded_residual) (xor_back v (fcm_prediction m))

-- its code names the predictor
name_back : (m : Memory) (n : Bool) (v : ℕ) → names_dfcm (coded_naming m n v).code ≡ n
unfolding coded_naming names_dfcm coded_by
name_back m true v = le-leb 8 (8 + low_three (zero_bytes (dfcm_residual m v))) (omega arith)
name_back m false v = lt-leb 8 (0 + low_three (zero_bytes (fcm_residual m v))) (omega (arith, low_three_small _ (zeros-at_most (fcm_residual m v))))

-- words of 64 bits in the predictors
pub record Wide (m : Memory) : Type 0 where
  pub fcm : Words m.fcm
  pub dfcm : Words m.dfcm
  pub last : m.last < 2 ^ 64

wide-set : (l : List ℕ) (j v : ℕ) → Words l → v < 2 ^ 64 → Words (set l j v)
wide-set [] j v h l i = h i
wide-set (x ∷ xs) zero v h l zero = l
wide-set (x ∷ xs) zero v h l (suc i) = h (suc i)
wide-set (x ∷ xs) (suc j) v h l zero = h zero
wide-set (x ∷ xs) (suc j) v h l (suc i) = wide-set xs j v (λ k. h (suc k)) l i

wide-zeros : (n : ℕ) → Words (replicate n 0)
wide-zeros zero i = omega arith
wide-zeros (suc n) zero = omega arith
wide-zeros (suc n) (suc i) = wide-zeros n i

pub wide-cleared : (t : ℕ) → Wide (cleared t)
unfolding cleared
wide-cleared t = record { fcm = wide-zeros (2 ^ t); dfcm = wide-zeros (2 ^ t); last = omega arith }

pub wide-learn : (t : ℕ) (m : Memory) (v : ℕ) → Wide m → v < 2 ^ 64 → Wide (learn t m v)
unfolding learn difference sub64
wide-learn t m v w h =
    record { fcm = wide-set m.fcm m.fcm_hash v w.fcm h; dfcm = wide-set m.dfcm m.dfcm_hash _ w.dfcm (omega arith); last = h }

fcm-wide : (m : Memory) (v : ℕ) → Wide m → v < 2 ^ 64 → fcm_residual m v < 2 ^ 64
unfolding fcm_residual fcm_prediction
fcm-wide m v w h = xor-word v _ h (w.fcm m.fcm_hash)

dfcm-wide : (m : Memory) (v : ℕ) → v < 2 ^ 64 → dfcm_residual m v < 2 ^ 64
unfolding dfcm_residual dfcm_prediction add64
dfcm-wide m v h = xor-word v _ h (omega arith)

-- its residual is a word
naming_wide : (m : Memory) (n : Bool) (v : ℕ) → Wide m → v < 2 ^ 64 → cond n (dfcm_residual m v) (fcm_residual m v) < 2 ^ 64
naming_wide m true v w h = dfcm-wide m v h
naming_wide m false v w h = fcm-wide m v w h

-- ---- the words, each by the predictor that is named for it

module _ (t : ℕ) where
  -- their codes have four bits
  naming_four_bits : (m : Memory) (ns : List Bool) (ws : List ℕ) → FourBits (codes (all_naming t m ns ws))
  unfolding coded_naming
  naming_four_bits m [] ws i = omega arith
  naming_four_bits m (n ∷ ns) [] i = omega arith
  naming_four_bits m (n ∷ ns) (v ∷ vs) zero = code-small n _
  naming_four_bits m (n ∷ ns) (v ∷ vs) (suc i) = naming_four_bits (learn t m v) ns vs i

  -- their residuals fit
  naming_fit : (m : Memory) (ns : List Bool) (ws : List ℕ) → Wide m → Words ws → Fit (all_naming t m ns ws)
  unfolding coded_naming
  naming_fit m [] ws w h = none
  naming_fit m (n ∷ ns) [] w h = none
  naming_fit m (n ∷ ns) (v ∷ vs) w h =
      more (coded_by_fits n _ (naming_wide m n v w (h 0))) (naming_fit (learn t m v) ns vs (wide-learn t m v w (h 0)) (λ i. h (suc i)))

  -- their codes are not padded
  naming_tight : (m : Memory) (ns : List Bool) (ws : List ℕ) → Wide m → Words ws → Tight (all_naming t m ns ws)
  unfolding coded_naming
  naming_tight m [] ws w h = none
  naming_tight m (n ∷ ns) [] w h = none
  naming_tight m (n ∷ ns) (v ∷ vs) w h =
      more (coded-tight n _ (naming_wide m n v w (h 0))) (naming_tight (learn t m v) ns vs (wide-learn t m v w (h 0)) (λ i. h (suc i)))

  -- there are as many, they come back, and their codes name the predictors
  length_naming : (m : Memory) (ns : List Bool) (ws : List ℕ) → length ns ≡ length ws → length (all_naming t m ns ws) ≡ length ws
  length_naming m [] [] e = refl
  length_naming m [] (v ∷ vs) e = absurd (omega arith)
  length_naming m (n ∷ ns) [] e = refl
  length_naming m (n ∷ ns) (v ∷ vs) e = ap suc (length_naming (learn t m v) ns vs (omega arith))

  naming_back : (m : Memory) (ns : List Bool) (ws : List ℕ) → length ns ≡ length ws → decoded_words t m (all_naming t m ns ws) ≡ ws
  naming_back m [] [] e = refl
  naming_back m [] (v ∷ vs) e = absurd (omega arith)
  naming_back m (n ∷ ns) [] e = absurd (omega arith)
  naming_back m (n ∷ ns) (v ∷ vs) e = rw (word_back m n v) (ap (λ (l : List ℕ). v ∷ l) (naming_back (learn t m v) ns vs (omega arith)))

  names_back : (m : Memory) (ns : List Bool) (ws : List ℕ) → length ns ≡ length ws → map names_dfcm (codes (all_naming t m ns ws)) ≡ ns
  names_back m [] [] e = refl
  names_back m [] (v ∷ vs) e = absurd (omega arith)
  names_back m (n ∷ ns) [] e = absurd (omega arith)
  names_back m (n ∷ ns) (v ∷ vs) e = rw (name_back m n v) (ap (λ (l : List Bool). n ∷ l) (names_back (learn t m v) ns vs (omega arith)))

module _ (ns : List Bool) (t : ℕ) (ws : List ℕ) where
  -- their block is bytes
  pub naming_bytes : Bytes (block_naming ns t ws)
  unfolding block_naming
  naming_bytes = arranged-bytes (all_naming t (cleared t) ns ws) (naming_four_bits t (cleared t) ns ws)

  -- it counts the words and names the predictors; check takes it, and it reads as the words
  module _ (each : length ns ≡ length ws) (few : length ws ≤ 65536) where
    abbrev cs : List Coded
    cs = all_naming t (cleared t) ns ws

    few-coded : length cs ≤ 65536
    few-coded = rw (length_naming t (cleared t) ns ws each) few

    four_bits : FourBits (codes cs)
    four_bits = naming_four_bits t (cleared t) ns ws

    pub naming_count : count (block_naming ns t ws) ≡ length ws
    unfolding block_naming
    naming_count = arranged-count cs few-coded four_bits ∙ length_naming t (cleared t) ns ws each

    pub naming_names : named (block_naming ns t ws) ≡ ns
    unfolding block_naming named
    naming_names = ap (map names_dfcm) (arranged-codes cs few-coded four_bits) ∙ names_back t (cleared t) ns ws each

    module _ (wide : Words ws) where
      fit : Fit cs
      fit = naming_fit t (cleared t) ns ws (wide-cleared t) wide

      pub naming_whole : block_number (block_naming ns t ws) ≡ 0
      unfolding block_naming
      naming_whole = arranged-whole cs few-coded four_bits fit (naming_tight t (cleared t) ns ws (wide-cleared t) wide)

      pub naming_words : words_in t (block_naming ns t ws) ≡ ws
      unfolding block_naming words_in
      naming_words = rw (arranged_back cs few-coded four_bits fit) (naming_back t (cleared t) ns ws each)

-- ---- the words, by any choice

module _ (choice : Choice) where
  choice-names : (m : Memory) (v : ℕ) → coded_word choice m v ≡ coded_naming m (choice (fcm_residual m v) (dfcm_residual m v)) v
  unfolding coded_word chosen coded_naming
  choice-names m v = either (choice (fcm_residual m v) (dfcm_residual m v)) (λ e. rw e) (λ e. rw e)

  coded_naming_lem : (t : ℕ) (m : Memory) (ws : List ℕ) → coded_words choice t m ws ≡ all_naming t m (names_by choice t m ws) ws
  coded_naming_lem t m [] = refl
  coded_naming_lem t m (v ∷ vs) = rw (choice-names m v, coded_naming_lem t (learn t m v) vs)

  length-names : (t : ℕ) (m : Memory) (ws : List ℕ) → length (names_by choice t m ws) ≡ length ws
  length-names t m [] = refl
  length-names t m (v ∷ vs) = ap suc (length-names t (learn t m v) vs)

  -- a choice names a predictor for each word
  module _ (t : ℕ) (ws : List ℕ) where
    abbrev names : List Bool
    names = names_by choice t (cleared t) ws

    pub chosen_naming : block_by choice t ws ≡ block_naming names t ws
    unfolding block_by block_naming
    chosen_naming = ap arranged (coded_naming_lem t (cleared t) ws)

    pub chosen-bytes : Bytes (block_by choice t ws)
    chosen-bytes = rw chosen_naming (naming_bytes names t ws)

    module _ (few : length ws ≤ 65536) where
      pub chosen-count : count (block_by choice t ws) ≡ length ws
      chosen-count = rw chosen_naming (naming_count names t ws (length-names t (cleared t) ws) few)

      pub chosen-whole : Words ws → block_number (block_by choice t ws) ≡ 0
      chosen-whole wide = rw chosen_naming (naming_whole names t ws (length-names t (cleared t) ws) few wide)

      pub chosen-words : Words ws → words_in t (block_by choice t ws) ≡ ws
      chosen-words wide = rw chosen_naming (naming_words names t ws (length-names t (cleared t) ws) few wide)

-- the block stands first in the output
pub written-block : {t : ℕ} {ws old f' d' out' : List ℕ} {k : ℕ} → PacksAll t ws old f' d' out' k → take k out' ≡ block t ws
written-block {t} {ws} {old} p = rw (p.size, p.out) (take-append_seam (block t ws) _)

-- and the words stand first in what unpacking gives
pub given_words_lem : {t : ℕ} {b old f' d' ws' : List ℕ} {n : ℕ} → block_number b ≡ 0 → UnpacksAll t b old f' d' ws' n → take n ws' ≡ words_in t b
given_words_lem {t} {b} {n = n} e u = rw u.words (take_at (words_in t b) _ n (length-words t b n (counted b n e u.count)))

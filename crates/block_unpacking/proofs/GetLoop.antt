-- A word of a prediction and a residual; the loop that reads words: what holds at its head, where it starts, after a turn and at its end.
use Rattle.std.proofs.Common.{replicate, ◌≡◌, ℕ, ◌+◌, ◌<◌, ◌≤◌, List, [], ◌∷◌, length, get_or, drop, set, sym, refl, ap, ◌∙◌, add-one, arith, length-set, le-ltb, lt-ltb}
use lib.Seq.{sets}
use Rattle.words.specs.Words.{xor}
use Rattle.words.specs.Bytes.{field}
use Rattle.answers.proofs.Checks.{sets_over}
use Rattle.block_rules.specs.Predictors.{Memory, cleared, fcm_prediction, dfcm_prediction, learn, after}
use Rattle.block_rules.specs.Codes.{named_prediction, written, decoded_word, decoded_words}
use Rattle.block_rules.specs.Block.{count, halves, counted_codes, residual_length, residuals_at, coded_in, words_in}
use Rattle.block_rules.specs.Numbers.{t_of}
use Rattle.std.specs.Borrow.{MutBor}
use Rattle.block_rules.specs.Inside.{coded_at, Unpackable, UnpacksAll}
use Rattle.block_rules.specs.declared.Coded.{Coded}
use Rattle.block_choice.specs.Inside.{held, size, Becomes, Starts}
use Rattle.block_choice.specs.declared.predict.Predictors.{Predictors}
use Rattle.block_choice.proofs.Learning.{becomes-then}
use Rattle.block_rules.proofs.Learn.{cleared_of}
use Rattle.block_rules.proofs.Accept.{whole, counted}
use Rattle.block_rules.proofs.Get.{rest, rest-next, span_next, rest-none, length-words}
use Rattle.block_unpacking.specs.Inside.{Decodable, GetsWord, Getting, Gets}

pub named-fcm : (m : Memory) (c p : ℕ) → c < 8 → p ≡ fcm_prediction m → p ≡ named_prediction m c
unfolding named_prediction
named-fcm m c p h e = rw (lt-ltb c 8 h) e

pub named-dfcm : (m : Memory) (c p : ℕ) → 8 ≤ c → p ≡ dfcm_prediction m → p ≡ named_prediction m c
unfolding named_prediction
named-dfcm m c p h e = rw (le-ltb c 8 h) e

-- Finishing from here, over the codes from i on, leaves what the whole run leaves.
pub record Going (b : List ℕ) (n : ℕ) (p₀ : Predictors) (words₀ : List ℕ) (p : Predictors) (words : List ℕ) (at i : ℕ) : Type 0 where
  pub upto : i ≤ n
  pub learnt : Becomes p₀ (held p) p
  pub words_long : length words ≡ length words₀
  pub past : 8 ≤ at
  pub bytes : at + residual_length (drop i (counted_codes b)) ≡ length b
  pub state : after (size p₀) (held p) (decoded_words (size p₀) (held p) (rest b i at)) ≡ after (size p₀) (cleared (size p₀)) (words_in (size p₀) b)
  pub all : sets words i (decoded_words (size p₀) (held p) (rest b i at)) ≡ sets words₀ 0 (words_in (size p₀) b)

pub going-starts : (b : List ℕ) (n : ℕ) (f d : MutBor (List ℕ)) (p : Predictors) (words : List ℕ) → Getting b n f.now d.now words → Starts f d p → Going b n p words p words (residuals_at n) 0
unfolding words_in coded_in
going-starts b n f d p words q s =
    let w = whole b q.whole in
    let holds : held p ≡ cleared (size p) = rw (← s.same_size) at s.holds in
    record {
      upto = omega arith;
      learnt = record { same_fcm = refl; same_dfcm = refl; same_size = refl; able = s.able; holds = refl };
      words_long = refl;
      past = omega arith;
      bytes = rw q.count (sym w.adds);
      state = rw (q.count, holds);
      all = rw (q.count, holds);
    }

pub gets_word : (b : List ℕ) (at code : ℕ) (p : Predictors) (words : List ℕ) (i : ℕ) (p' : Predictors) (at' predicted v : ℕ)
    → predicted ≡ named_prediction (held p) code → v ≡ xor (field (written code) at b) predicted → Becomes p (learn (size p) (held p) v) p' → at' ≡ at + written code
    → GetsWord b at code p words i p' (set words i v) at'
unfolding decoded_word
gets_word b at code p words i p' at' predicted v e1 e2 e3 e4 =
    let is : v ≡ xor (field (written code) at b) (named_prediction (held p) code) = rw (← e1) e2 in
    record { word = rw is; learnt = rw is at e3; next = e4 }

module _ (b : List ℕ) (n : ℕ) (p₀ : Predictors) (words₀ : List ℕ) (p : Predictors) (words : List ℕ) (at i : ℕ) (g : Going b n p₀ words₀ p words at i) {f d : List ℕ} (q : Getting b n f d words₀) where
  -- the residual bytes of the next code end within the block
  pub code-within : (code : ℕ) → i < n → code ≡ get_or (halves (drop 8 b)) i 0 → at + written code ≤ length b
  code-within code h e = omega (arith, span_next b n i at code (counted b n q.whole q.count) h e g.bytes)

  -- so do those of the next two, in whichever order they are read
  pub codes-within : (one two : ℕ) → i + 1 < n → one ≡ get_or (halves (drop 8 b)) i 0 → two ≡ get_or (halves (drop 8 b)) (i + 1) 0 → at + written one + written two ≤ length b
  codes-within one two h e f =
      let k = counted b n q.whole q.count in
      omega (arith, span_next b n (i + 1) (at + written one) two k h f (span_next b n i at one k (omega arith) e g.bytes))

  -- a word can be read where its residual bytes end within the block
  pub going_next : (code : ℕ) → i < n → at + written code ≤ length b → (Decodable b at code p) × (i < length words)
  going_next code h l = (record { able = g.learnt.able; past = g.past; within = l }, omega (arith, q.room, g.words_long))

  -- so can the word after it, whatever the code of the first was
  pub going_second : (p' : Predictors) (words' : List ℕ) (at' code two : ℕ) → i + 1 < n → GetsWord b at code p words i p' words' at' → at' + written two ≤ length b
      → (Decodable b at' two p') × (i + 1 < length words')
  going_second p' words' at' code two h s l = (
    record { able = s.learnt.able; past = omega (arith, g.past, s.next); within = l },
    omega (arith, q.room, g.words_long, ap length s.word ∙ length-set words i _),
  )

  pub going_on : (p' : Predictors) (words' : List ℕ) (at' code : ℕ) → i < n → code ≡ get_or (halves (drop 8 b)) i 0 → GetsWord b at code p words i p' words' at'
      → Going b n p₀ words₀ p' words' at' (i + 1)
  going_on p' words' at' code h e s =
      let t = size p₀ in
      let k = counted b n q.whole q.count in
      let w : Coded = coded_at b at code in
      let z : rest b i at ≡ w ∷ rest b (i + 1) at' = rw s.next (rest-next b n i at code k h e) in
      let m : held p' ≡ learn t (held p) (decoded_word (held p) w) = rw g.learnt.same_size at s.learnt.holds in
      record {
        upto = omega arith;
        learnt = rw s.learnt.holds (becomes-then p₀ p p' (held p) _ g.learnt s.learnt);
        words_long = ap length s.word ∙ length-set words i _ ∙ g.words_long;
        past = omega (arith, g.past, s.next);
        bytes = omega (arith, s.next, span_next b n i at code k h e g.bytes);
        state = rw m (rw z at g.state);
        all = rw (m, s.word, add-one i) (rw (z, add-one i) at g.all);
      }

  pub going-ends : n ≤ i → size p₀ ≡ t_of (length f) → (f' d' : List ℕ) → f' ≡ p.fcm.now → d' ≡ p.dfcm.now → Gets (t_of (length f)) b words₀ f' d' words
  going-ends h size-is f' d' ef ed =
      let t = t_of (length f) in
      let e : rest b i at ≡ [] = rest-none b n i at (counted b n q.whole q.count) h in
      let m : held p ≡ after t (cleared t) (words_in t b) = rw size-is at (rw e at g.state) in
      record { fcm = ef ∙ ap (λ (x : Memory). x.fcm) m; dfcm = ed ∙ ap (λ (x : Memory). x.dfcm) m; words = rw size-is at (rw e at g.all) }

-- ---- around the loop: the tables cleared before it

pub getting_of : (b : List ℕ) (n : ℕ) (f d words f₁ d₁ : List ℕ) → Unpackable b (length f) (length d) (length words) → n ≡ count b
    → f₁ ≡ replicate (length f) 0 → d₁ ≡ replicate (length d) 0 → Getting b n f₁ d₁ words
getting_of b n f d words f₁ d₁ p c e q =
    record { cleared = cleared_of f d f₁ d₁ p.sized e q; whole = p.whole; count = c; room = rw c p.room }

pub unpacks-all : (b : List ℕ) (n : ℕ) (f d words f₁ f' d' words' : List ℕ) → Unpackable b (length f) (length d) (length words) → n ≡ count b → length f₁ ≡ length f
    → Gets (t_of (length f₁)) b words f' d' words' → UnpacksAll (t_of (length f)) b words f' d' words' n
unpacks-all b n f d words f₁ f' d' words' p c e g =
    let t = t_of (length f) in
    let l : length (words_in t b) ≤ length words = omega (arith, length-words t b n (counted b n p.whole c), p.room) in
    record {
      count = c;
      fcm = rw e at g.fcm;
      dfcm = rw e at g.dfcm;
      words = (rw e at g.words) ∙ sets_over (words_in t b) words l;
    }

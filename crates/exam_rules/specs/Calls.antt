-- What each call on a file answers, and what it leaves in everything lent to it, refused or not.
use Rattle.std.specs.Prelude.{◌≡◌, ℕ, ◌+◌, ◌-◌, List, [], ◌∷◌, cond, eqb, length, replicate, take, drop, Option, None, Some, Result, Ok, Err}
use Rattle.answers.specs.Answers.{first_failure, afterwards, over}
use Rattle.answers.specs.Refusals.{refusal_number, number_told, value_told}
use Rattle.answers.specs.declared.Refusal.{Refusal}
use Rattle.block_rules.specs.Predictors.{Memory, cleared, after}
use Rattle.block_rules.specs.Block.{block}
use Rattle.block_rules.specs.Calls.{UnpacksWhere, Unpacked}
use Rattle.exam_rules.specs.File.{File, file_length, file_bytes, empty, appended, replaced}
use Rattle.exam_rules.specs.Reading.{file_in, entry_of}
use Rattle.exam_rules.specs.Numbers.{open_in_number, find_number, fetch_number, block_in, create_number, append_number_to, record_number_to, replace_number, salvage_number}
use Rattle.exam_rules.specs.Salvage.{salvaged_file}
use Rattle.exam_rules.specs.declared.Record.{Record}
use Rattle.exam_rules.specs.declared.Trailer.{Trailer}
use Rattle.exam_rules.specs.declared.BlockPlace.{BlockPlace}
use Rattle.exam_rules.specs.declared.Progress.{Progress}
use Rattle.exam_rules.specs.declared.SalvagedFile.{SalvagedFile}

-- ---- open

-- what opening tells of a file: edition, t, entries, the directory's start
abbrev pub trailer_of : File → Trailer
trailer_of f = record { edition = f.edition; t = f.t; entries = length f.entries; start = length f.body }

-- what an opening tells: the trailer, or the number of the refusal
pub data Opened : Type 0 where
  Done : Trailer → Opened
  Refused : ℕ → Opened

abbrev pub opened_told : Result Trailer Refusal → Opened
opened_told (Ok tr) = Done tr
opened_told (Err r) = Refused (refusal_number r)

-- open answers the trailer or the number
unfoldable pub opened : List ℕ → ℕ → ℕ → Opened
opened b l exam = afterwards (open_in_number b l exam) (Done (trailer_of (file_in (take l b)))) (Refused (open_in_number b l exam))

-- the number that an opening answers, and its values: all 0 where it is refused
abbrev pub opened_number : Opened → ℕ
opened_number (Done tr) = 0
opened_number (Refused k) = k

abbrev pub opened_t : Opened → ℕ
opened_t (Done tr) = tr.t
opened_t (Refused k) = 0

abbrev pub opened_entries : Opened → ℕ
opened_entries (Done tr) = tr.entries
opened_entries (Refused k) = 0

abbrev pub opened_start : Opened → ℕ
opened_start (Done tr) = tr.start
opened_start (Refused k) = 0

-- ---- find

-- find(file, length, exam, slot, number): the block as a part of the file, or an empty part; the number, refused or not
pub record Finds (b : List ℕ) (l exam slot : ℕ) (part : List ℕ) (number : ℕ) : Type 0 where
  pub number_left : number ≡ find_number b l exam slot
  pub answer : part ≡ afterwards (find_number b l exam slot) (block_in b l slot) []

-- ---- locate

-- what locate tells: the number, and where the block stands in the file and its size, or 0 and 0
pub record Located : Type 0 where
  pub number : ℕ
  pub offset : ℕ
  pub size : ℕ

abbrev pub located_told : Result BlockPlace Refusal → Located
located_told r = record { number = number_told r; offset = value_told (λ (p : BlockPlace). p.offset) r; size = value_told (λ (p : BlockPlace). p.size) r }

-- locate(file, length, exam, slot): find's number, and the block's offset in the file and its length, both 0 where it is refused
unfoldable pub located : List ℕ → ℕ → ℕ → ℕ → Located
located b l exam slot =
    record {
      number = find_number b l exam slot;
      offset = afterwards (find_number b l exam slot) (entry_of slot (file_in (take l b))).offset 0;
      size = afterwards (find_number b l exam slot) (entry_of slot (file_in (take l b))).size 0;
    }

-- ---- fetch

-- fetch(file, length, exam, slot, fcm, dfcm, words): as unpack leaves them for the slot's block, with tables of 2 ^ t words
module _ (b : List ℕ) (l exam slot : ℕ) (fcm dfcm words : List ℕ) where
  abbrev pub fetches_number : ℕ
  fetches_number = fetch_number b l exam slot (length fcm) (length dfcm) (length words)

  pub record Fetches (r : Unpacked) (fcm' dfcm' words' : List ℕ) : Type 0 where
    pub unpacks : UnpacksWhere fetches_number (file_in (take l b)).t (block_in b l slot) fcm dfcm words r fcm' dfcm' words'

-- ---- calls that make or change a file

-- what such a call tells: the number, and the file's new length or 0
pub record Made : Type 0 where
  pub number : ℕ
  pub length : ℕ

abbrev pub made_told : Result ℕ Refusal → Made
made_told r = record { number = number_told r; length = value_told (λ n. n) r }

-- such a call answers the number and the file's new length
unfoldable pub made : ℕ → File → Made
made k f = record { number = k; length = afterwards k (file_length f) 0 }

-- where the number is 0 the buffer b holds the file f and then its old content; else it is as it was
pub record Changes (k : ℕ) (f : File) (b : List ℕ) (r : Made) (b' : List ℕ) : Type 0 where
  pub answer : r ≡ made k f
  pub file_left : b' ≡ afterwards k (over (file_bytes f) b) b

-- create(file, exam, t): an empty file
abbrev pub Creates : List ℕ → ℕ → ℕ → Made → List ℕ → Type 0
Creates b exam t r b' = Changes (create_number exam t (length b)) (empty exam t) b r b'

-- append(file, length, exam, slot, words, fcm, dfcm, bench): the file with the block of the words appended, the tables as pack leaves them, the block in the bench
module _ (b : List ℕ) (l exam slot : ℕ) (words fcm dfcm bench : List ℕ) where
  abbrev pub appends_number : ℕ
  appends_number =
      first_failure
      (open_in_number b l exam
      ∷ append_number_to (file_in (take l b)) slot (length words) (length fcm) (length dfcm) l (length b) (length bench)
      ∷ [])

  abbrev pub appends_t : ℕ
  appends_t = (file_in (take l b)).t

  abbrev pub appends_block : List ℕ
  appends_block = block appends_t words

  abbrev pub appends_memory : Memory
  appends_memory = after appends_t (cleared appends_t) words

  pub record Appends (r : Made) (b' fcm' dfcm' bench' : List ℕ) : Type 0 where
    pub file : Changes appends_number (appended (file_in (take l b)) slot appends_block) b r b'
    pub fcm_left : fcm' ≡ afterwards appends_number appends_memory.fcm fcm
    pub dfcm_left : dfcm' ≡ afterwards appends_number appends_memory.dfcm dfcm
    pub bench_left : bench' ≡ afterwards appends_number (over appends_block bench) bench

-- what a new file is laid over: the buffer, where the call answers 0 with 0 in the place of its old file of l bytes. What the new file does not cover
-- of these stays 0
abbrev pub wiped : ℕ → ℕ → List ℕ → List ℕ
wiped k l b = afterwards k (over (replicate l 0) b) b

-- replace(file, length, exam, slot, words, fcm, dfcm, bench): the file with the block of the words in the place of the slot's, the tables as pack
-- leaves them, the block in the bench
module _ (b : List ℕ) (l exam slot : ℕ) (words fcm dfcm bench : List ℕ) where
  abbrev pub replaces_number : ℕ
  replaces_number = replace_number b l exam slot (length words) (length fcm) (length dfcm) (length bench)

  abbrev pub replaces_t : ℕ
  replaces_t = (file_in (take l b)).t

  abbrev pub replaces_block : List ℕ
  replaces_block = block replaces_t words

  abbrev pub replaces_memory : Memory
  replaces_memory = after replaces_t (cleared replaces_t) words

  pub record Replaces (r : Made) (b' fcm' dfcm' bench' : List ℕ) : Type 0 where
    pub file : Changes replaces_number (replaced (file_in (take l b)) (entry_of slot (file_in (take l b))) replaces_block) (wiped replaces_number l b) r b'
    pub fcm_left : fcm' ≡ afterwards replaces_number replaces_memory.fcm fcm
    pub dfcm_left : dfcm' ≡ afterwards replaces_number replaces_memory.dfcm dfcm
    pub bench_left : bench' ≡ afterwards replaces_number (over replaces_block bench) bench

-- ---- append_all

-- what append_all tells: the number, how many maps went in, and the file's length then, or 0
pub record Filled : Type 0 where
  pub number : ℕ
  pub appended : ℕ
  pub length : ℕ

-- the number of what stopped it: 0 where nothing did
abbrev pub stop_number : Option Refusal → ℕ
stop_number None = 0
stop_number (Some r) = refusal_number r

abbrev pub filled_told : Progress → Filled
filled_told f = record { number = stop_number f.refused; appended = f.appended; length = f.length }

-- what append_all is lent to be changed: the buffer with the file, both tables, the bench buffer
pub record Lent : Type 0 where
  pub file : List ℕ
  pub fcm : List ℕ
  pub dfcm : List ℕ
  pub bench : List ℕ

abbrev pub lent : (file fcm dfcm bench : List ℕ) → Lent
lent b fcm dfcm bench = record { file = b; fcm = fcm; dfcm = dfcm; bench = bench }

-- the words of a record, among those in the one lent word buffer: so many from its first on
abbrev pub words_of : Record → List ℕ → List ℕ
words_of r words = take r.count (drop r.first words)

-- a record, where the file of l bytes is open: 15, and then what append answers for its words, and leaves
module _ (words : List ℕ) (r : Record) (l : ℕ) (s : Lent) where
  abbrev pub record_file : File
  record_file = file_in (take l s.file)

  abbrev pub record_block : List ℕ
  record_block = block record_file.t (words_of r words)

  abbrev pub record_memory : Memory
  record_memory = after record_file.t (cleared record_file.t) (words_of r words)

  abbrev pub record_appends_number : ℕ
  record_appends_number = record_number_to record_file r (length words) (length s.fcm) (length s.dfcm) l (length s.file) (length s.bench)

  unfoldable pub record_appended : Made × Lent
  record_appended = (
    made record_appends_number (appended record_file r.slot record_block),
    afterwards record_appends_number
        (lent
        (over (file_bytes (appended record_file r.slot record_block)) s.file)
        record_memory.fcm
        record_memory.dfcm
        (over record_block s.bench))
        s,
  )

-- the length that a refusal answers, where k maps went in and the file has l bytes then: the one reached, and 0 where none went in, as append does
abbrev pub length_kept : ℕ → ℕ → ℕ
length_kept k l = cond (eqb k 0) 0 l

-- what append_all answers with a number, where k maps went in and the file has l bytes then
abbrev pub filled : ℕ → ℕ → ℕ → Filled
filled number k l = record { number = number; appended = k; length = afterwards number l (length_kept k l) }

-- the records one after another, up to the first that is refused, where the file of l bytes is open and k maps went in before
unfoldable pub each_appended : List ℕ → List Record → ℕ → ℕ → Lent → Filled × Lent
each_appended words [] k l s = (filled 0 k l, s)
each_appended words (r ∷ rs) k l s =
    let p = record_appended words r l s in
    afterwards {A = Filled × Lent} p.0.number (each_appended words rs (k + 1) p.0.length p.1) (filled p.0.number k l, p.1)

-- append_all(file, length, exam, records, words, fcm, dfcm, bench): open, then each record
unfoldable pub all_appended : ℕ → ℕ → List Record → List ℕ → Lent → Filled × Lent
all_appended l exam records words s =
    afterwards {A = Filled × Lent} (open_in_number s.file l exam) (each_appended words records 0 l s) (filled (open_in_number s.file l exam) 0 l, s)

module _ (b : List ℕ) (l exam : ℕ) (records : List Record) (words fcm dfcm bench : List ℕ) where
  abbrev pub appends_all : Filled × Lent
  appends_all = all_appended l exam records words (lent b fcm dfcm bench)

  pub record AppendsAll (r : Filled) (b' fcm' dfcm' bench' : List ℕ) : Type 0 where
    pub answer : r ≡ appends_all.0
    pub file_left : b' ≡ appends_all.1.file
    pub fcm_left : fcm' ≡ appends_all.1.fcm
    pub dfcm_left : dfcm' ≡ appends_all.1.dfcm
    pub bench_left : bench' ≡ appends_all.1.bench

-- ---- salvage

-- what salvage tells: the number; the new file's length; how many blocks it kept and how many of the old bytes it left over; and 1, since the slots are
-- renumbered. All but the number are 0 at a refusal
pub record Salvaged : Type 0 where
  pub number : ℕ
  pub length : ℕ
  pub kept : ℕ
  pub left_over : ℕ
  pub renumbered : ℕ

abbrev pub salvaged_told : Result SalvagedFile Refusal → Salvaged
salvaged_told r =
    record {
      number = number_told r;
      length = value_told (λ (s : SalvagedFile). s.length) r;
      kept = value_told (λ (s : SalvagedFile). s.kept) r;
      left_over = value_told (λ (s : SalvagedFile). s.left_over) r;
      renumbered = value_told (λ (s : SalvagedFile). cond s.renumbered 1 0) r;
    }

-- salvage answers the number and the new length; how many blocks were kept; how many of the old bytes were left over; and 1, since the slots are renumbered. Where it
-- is refused, all but the number are 0
unfoldable pub salvaged : ℕ → List ℕ → File → Salvaged
salvaged k old f =
    record {
      number = k;
      length = afterwards k (file_length f) 0;
      kept = afterwards k (length f.entries) 0;
      left_over = afterwards k (length old - length f.body) 0;
      renumbered = afterwards k 1 0;
    }

-- salvage(old, file, exam, t): a new file of the blocks that stand whole at the start of the old bytes
module _ (old b : List ℕ) (exam t : ℕ) where
  abbrev pub salvages_number : ℕ
  salvages_number = salvage_number exam t (file_length (salvaged_file old exam t)) (length b)

  pub record Salvages (r : Salvaged) (b' : List ℕ) : Type 0 where
    pub answer : r ≡ salvaged salvages_number old (salvaged_file old exam t)
    pub file_left : b' ≡ afterwards salvages_number (over (file_bytes (salvaged_file old exam t)) b) b

-- What each call from C answers and leaves. It is the store's own call: its number is answered, and what it tells beside is put into the lent numbers, refused or not.
use Rattle.std.specs.Prelude.{◌≡◌, ℕ, List}
use Rattle.block_rules.specs.Calls.{Packs, checked, Unpacks}
use Rattle.exam_rules.specs.Calls.{opened, opened_number, located, Fetches, Creates, Appends, AppendsAll, Replaces, Salvages}
use Rattle.exam_rules.specs.declared.Record.{Record}

-- coil_open(file, length, exam): open's number alone
abbrev pub CoilOpens : List ℕ → (length exam : ℕ) → (r : ℕ) → Type 0
CoilOpens b l exam r = r ≡ opened_number (opened b l exam)

-- coil_check(block): check's number alone
abbrev pub CoilChecks : List ℕ → ℕ → Type 0
CoilChecks b r = r ≡ (checked b).number

-- coil_pack(words, fcm, dfcm, out, length), as pack
abbrev pub CoilPacks : (words fcm dfcm out : List ℕ) → (r : ℕ) → (fcm' dfcm' out' : List ℕ) → (length : ℕ) → Type 0
CoilPacks words fcm dfcm out r fcm' dfcm' out' length = Packs words fcm dfcm out (record { number = r; length = length }) fcm' dfcm' out'

-- coil_unpack(block, fcm, dfcm, words, count), as unpack
abbrev pub CoilUnpacks : (block fcm dfcm words : List ℕ) → (r : ℕ) → (fcm' dfcm' words' : List ℕ) → (count : ℕ) → Type 0
CoilUnpacks block fcm dfcm words r fcm' dfcm' words' count = Unpacks block fcm dfcm words (record { number = r; count = count }) fcm' dfcm' words'

-- coil_create(file, exam, t, length), as create
abbrev pub CoilCreates : (b : List ℕ) → (exam t : ℕ) → (r : ℕ) → (b' : List ℕ) → (length : ℕ) → Type 0
CoilCreates b exam t r b' length = Creates b exam t (record { number = r; length = length }) b'

-- coil_find(file, length, exam, slot, offset, block_length), as locate
abbrev pub CoilFinds : (b : List ℕ) → (length exam slot : ℕ) → (r : ℕ) → (offset size : ℕ) → Type 0
CoilFinds b l exam slot r offset size = record { number = r; offset = offset; size = size } ≡ located b l exam slot

-- coil_fetch(file, length, exam, slot, fcm, dfcm, words, count), as fetch
abbrev pub CoilFetches : (b : List ℕ) → (length exam slot : ℕ) → (fcm dfcm words : List ℕ) → (r : ℕ) → (fcm' dfcm' words' : List ℕ) → (count : ℕ) → Type 0
CoilFetches b l exam slot fcm dfcm words r fcm' dfcm' words' count = Fetches b l exam slot fcm dfcm words (record { number = r; count = count }) fcm' dfcm' words'

-- coil_append(file, length, exam, slot, words, fcm, dfcm, bench, new_length), as append
abbrev pub CoilAppends : (b : List ℕ) → (length exam slot : ℕ) → (words fcm dfcm bench : List ℕ) → (r : ℕ) → (b' fcm' dfcm' bench' : List ℕ) → (new_length : ℕ) → Type 0
CoilAppends b l exam slot words fcm dfcm bench r b' fcm' dfcm' bench' length =
    Appends b l exam slot words fcm dfcm bench (record { number = r; length = length }) b' fcm' dfcm' bench'

-- coil_append_all(file, length, exam, records, words, fcm, dfcm, bench, appended, new_length), as append_all
abbrev pub CoilAppendsAll : (b : List ℕ) → (length exam : ℕ) → (records : List Record) → (words fcm dfcm bench : List ℕ) → (r : ℕ) → (b' fcm' dfcm' bench' : List ℕ) → (appended new_length : ℕ) → Type 0
CoilAppendsAll b l exam records words fcm dfcm bench r b' fcm' dfcm' bench' appended length =
    AppendsAll b l exam records words fcm dfcm bench (record { number = r; appended = appended; length = length }) b' fcm' dfcm' bench'

-- coil_replace(file, length, exam, slot, words, fcm, dfcm, bench, new_length), as replace
abbrev pub CoilReplaces : (b : List ℕ) → (length exam slot : ℕ) → (words fcm dfcm bench : List ℕ) → (r : ℕ) → (b' fcm' dfcm' bench' : List ℕ) → (new_length : ℕ) → Type 0
CoilReplaces b l exam slot words fcm dfcm bench r b' fcm' dfcm' bench' length =
    Replaces b l exam slot words fcm dfcm bench (record { number = r; length = length }) b' fcm' dfcm' bench'

-- coil_salvage(old, file, exam, t, new_length, kept, left_over, renumbered), as salvage
abbrev pub CoilSalvages : (old b : List ℕ) → (exam t : ℕ) → (r : ℕ) → (b' : List ℕ) → (new_length kept left_over renumbered : ℕ) → Type 0
CoilSalvages old b exam t r b' length kept left_over renumbered =
    Salvages old b exam t (record { number = r; length = length; kept = kept; left_over = left_over; renumbered = renumbered }) b'

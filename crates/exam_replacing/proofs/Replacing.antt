-- Replacing in a file that was opened or refused.
use mathlib.Core.Path.{◌≡◌, sym, ap, ap₂, ◌∙◌}
use mathlib.Core.List.{List}
use Prim.Native.Nat.{ℕ, ◌-◌, ◌≤◌}
use native.Mathlib.Omega.{arith}
use lib.ListN.{length, get_or, take}
use Rattle.answers.specs.Answers.{over}
use Rattle.answers.proofs.Checks.{fails_here, fails_later, last_decides, afterwards-new, afterwards-old}
use Rattle.block_rules.specs.Block.{block}
use Rattle.block_rules.specs.Numbers.{t_of}
use Rattle.block_rules.specs.Inside.{PacksAll}
use Rattle.block_rules.proofs.Lengths.{block-at_most}
use Rattle.block_rules.proofs.Round.{written-block}
use Rattle.exam_rules.specs.File.{entry, File, file_length, file_bytes, replaced}
use Rattle.exam_rules.specs.Reading.{file_in, index_of, entry_of}
use Rattle.exam_rules.specs.Numbers.{find_number, store_number, replace_number}
use Rattle.exam_rules.specs.Calls.{opened, replaces_number, Replaces, Done}
use Rattle.exam_rules.specs.Inside.{Standing}
use Rattle.exam_rules.specs.declared.Trailer.{Trailer}
use Rattle.exam_rules.proofs.Opens.{standing}
use Rattle.exam_rules.proofs.Parts.{no_default, tells-t, t-small}
use Rattle.exam_rules.proofs.Changes.{change_refused, change_done}
use Rattle.exam_rules.proofs.Accept.{Storable, storable, find_tells}
use Rattle.exam_rules.proofs.Stored.{packed_all, bench-within}
use Rattle.exam_opening.specs.Inside.{FoundPart}
use Rattle.exam_opening.specs.declared.Part.{Part}
use Rattle.exam_opening.proofs.Finding.{once-opened}
use Rattle.exam_rewriting.specs.Inside.{Replacing, rewritten, Rewrites}

module _ (b : List ℕ) (l exam slot : ℕ) (words fcm dfcm bench : List ℕ) where
  replace_stopped : (n : ℕ) → n ≡ replaces_number b l exam slot words fcm dfcm bench → (n ≡ 0 → ⊥)
      → Replaces b l exam slot words fcm dfcm bench (record { number = n; length = 0 }) b fcm dfcm bench
  replace_stopped n e h =
      let r : replaces_number b l exam slot words fcm dfcm bench ≡ 0 → ⊥ = λ z. h (e ∙ z) in
      record {
        file = record { answer = (change_refused _ n _ b e h).answer; file_left = sym (afterwards-old _ _ _ r ∙ afterwards-old _ _ b r) };
        fcm_left = sym (afterwards-old _ _ fcm r);
        dfcm_left = sym (afterwards-old _ _ dfcm r);
        bench_left = sym (afterwards-old _ _ bench r);
      }

  -- where opening refused, or the slot is missing
  pub not_found : (k : ℕ) → k ≡ find_number b l exam slot → (k ≡ 0 → ⊥) → Replaces b l exam slot words fcm dfcm bench (record { number = k; length = 0 }) b fcm dfcm bench
  unfolding replace_number
  not_found k e h = replace_stopped k (fails_here _ _ _ e h) h

  -- where the file is open, and the slot was found
  module _ (tr : Trailer) (o : opened b l exam ≡ Done tr) (p : Part) (w : FoundPart (take l b) slot p) where
    st : Standing (take l b) tr
    st = standing b l exam tr o

    find_number_lem : 0 ≡ find_number b l exam slot
    find_number_lem = once-opened b l exam slot tr 0 (sym o) w.there

    module _ (n : ℕ) (r : n ≡ store_number tr.t (length words) (length fcm) (length dfcm) (l - (p.end - p.start)) (length b) (length bench)) where
      -- the number that the code finds is the call's
      replace_number_lem : n ≡ replaces_number b l exam slot words fcm dfcm bench
      unfolding replace_number
      replace_number_lem =
          fails_later _ _ _ (sym find_number_lem) ((rw (← (tells-t (take l b) tr st), w.size) at r) ∙ last_decides _)

      pub replace_not_done : (n ≡ 0 → ⊥) → Replaces b l exam slot words fcm dfcm bench (record { number = n; length = 0 }) b fcm dfcm bench
      replace_not_done h = replace_stopped n replace_number_lem h

      module _ (z : n ≡ 0) where
        pub stores : Storable tr.t (length words) (length fcm) (length dfcm) (l - (p.end - p.start)) (length b) (length bench)
        stores = storable _ _ _ _ _ _ _ (t-small (take l b) tr st) (sym r ∙ z)

        module _ (k : ℕ) (fcm' dfcm' bench' : List ℕ) (q : PacksAll (t_of (length fcm)) words bench fcm' dfcm' bench' k) where
          packs : PacksAll (file_in (take l b)).t words bench fcm' dfcm' bench' k
          packs = rw (← (tells-t (take l b) tr st)) at (packed_all tr.t words fcm dfcm bench (t-small (take l b) tr st) stores k fcm' dfcm' bench' q)

          pub bench-holds : k ≤ length bench'
          bench-holds = bench-within packs

          pub replacing : Replacing b (take k bench') l exam tr p
          replacing =
              let lk = ap length (written-block packs) in
              let m = block-at_most (file_in (take l b)).t words in
              record { opens = o; slot = slot; part = w; room = omega (arith, stores.room); small = omega (arith, stores.small) }

          pub replace_done : (size : ℕ) (b' : List ℕ) → Rewrites b (take k bench') l p.index b' size
              → Replaces b l exam slot words fcm dfcm bench (record { number = 0; length = size }) b' fcm' dfcm' bench'
          unfolding entry_of
          replace_done size b' s =
              let y = sym replace_number_lem ∙ z in
              let file = file_in (take l b) in
              let below = (find_tells b l exam slot (sym find_number_lem)).1 in
              let its : get_or file.entries p.index (entry 0 0 0) ≡ entry_of slot file =
              rw w.index (no_default file.entries (index_of slot file.entries) (entry 0 0 0) (entry slot 0 0) below) in
              let new : rewritten b (take k bench') l p.index ≡ replaced file (entry_of slot file) (block file.t words) = rw (written-block packs, its) in
              record {
                file =
                    change_done _ size _ _ b' y (s.end ∙ ap file_length new)
                    (s.bytes ∙ ap₂ (λ (f : File) (x : List ℕ). over (file_bytes f) x) new (sym (afterwards-new _ _ b y)));
                fcm_left = packs.fcm ∙ sym (afterwards-new _ _ fcm y);
                dfcm_left = packs.dfcm ∙ sym (afterwards-new _ _ dfcm y);
                bench_left = packs.out ∙ sym (afterwards-new _ _ bench y);
              }

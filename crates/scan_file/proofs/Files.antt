-- What is taken is exactly the files of scans. Assumes nothing.
use mathlib.Core.Path.{◌≡◌, refl, sym, ap, subst, ◌∙◌}
use Rattle.std.proofs.Common.{Some}
use mathlib.Core.List.{List, ◌∷◌, ◌++◌}
use Prim.Native.Nat.{ℕ, suc, ◌+◌, ◌*◌, ◌/◌, ◌^◌, ◌<◌}
use native.Mathlib.Omega.{arith}
use lib.ListN.{length, get_or, length-append, get_or-append}
use lib.Seq.{get_or_at, get_or-append-add}
use Rattle.scan_file.specs.Layout.{Scan, Fits, flat, section, words_of, encoded, scan_of, fraction_count, observation_count, fraction_at, observation_at}
use Rattle.scan_file.specs.Promises.{EncodedIsTaken, TakenIsEncoded, NoneLonger, FractionStands, ObservationStands, ExampleBytes}
use Rattle.scan_file.specs.Words.{bytes_of, word_at, each, Below}
use Rattle.scan_file.proofs.Parsing.{Facts, taken_facts, facts_taken, length_flat, flat_num, flat_den, flat_each, parts}
use Rattle.scan_file.proofs.Wording.{length_each, each_at, each_same, each_list, each_below, word_below, word_of, length_bytes, bytes_back}

-- the words of what bytes mean are the words that stand in them
module _ (bytes : List ℕ) (h : Facts bytes) where
  whole : 2 * (fraction_count bytes / 2) ≡ fraction_count bytes
  whole = omega arith

  fraction_words : flat (scan_of bytes).fractions ≡ each (word_at bytes) 4 (fraction_count bytes)
  fraction_words = flat_each bytes 0 (fraction_count bytes / 2) ∙ ap (each (word_at bytes) 4) whole

  observation-words : (scan_of bytes).observations ≡ each (word_at bytes) (5 + fraction_count bytes) (observation_count bytes)
  observation-words =
      let k = fraction_count bytes / 2 in
      each_same (observation_at bytes k) (word_at bytes) 0 (5 + fraction_count bytes) (observation_count bytes)
      (λ j. ap (word_at bytes) (omega (arith, whole)))

  words_back : words_of (scan_of bytes) ≡ each (word_at bytes) 0 (5 + fraction_count bytes + observation_count bytes)
  unfolding flat
  words_back =
      let w = word_at bytes in
      let f = fraction_count bytes in
      let o = observation_count bytes in
      ap (λ (l : List ℕ). 2 ∷ w 1 ∷ w 2 ∷ length l ∷ (l ++ section (scan_of bytes).observations)) fraction_words
      ∙ ap (λ (l : List ℕ). 2 ∷ w 1 ∷ w 2 ∷ length (each w 4 f) ∷ (each w 4 f ++ section l)) observation-words
      ∙ ap (λ (n : ℕ). 2 ∷ w 1 ∷ w 2 ∷ n ∷ (each w 4 f ++ section (each w (5 + f) o))) (length_each w 4 f)
      ∙ ap (λ (n : ℕ). 2 ∷ w 1 ∷ w 2 ∷ f ∷ (each w 4 f ++ (n ∷ each w (5 + f) o))) (length_each w (5 + f) o)
      ∙ ap (λ (n : ℕ). n ∷ w 1 ∷ w 2 ∷ f ∷ (each w 4 f ++ (o ∷ each w (5 + f) o))) (sym h.epsilon)
      ∙ sym (parts w f o)

  fits-back : Below 256 bytes → Fits (scan_of bytes)
  fits-back b =
      let n = 5 + fraction_count bytes + observation_count bytes in
      record {
        words = subst (λ (l : List ℕ). Below (2 ^ 32) l) (sym words_back) (each_below (2 ^ 32) (word_at bytes) 0 n (word_below bytes b));
        fractions_fit = rw fraction_words (rw length_each h.few);
        observations_fit = rw length_each h.small;
      }

  encoded-back : Below 256 bytes → encoded (scan_of bytes) ≡ bytes
  encoded-back b =
      ap bytes_of words_back ∙ bytes_back bytes (5 + fraction_count bytes + observation_count bytes) b h.long

pub taken_is_encoded : TakenIsEncoded
unfolding TakenIsEncoded
taken_is_encoded bytes b s e =
    let t = taken_facts bytes s e in
    rw t.1 (fits-back bytes t.0 b, encoded-back bytes t.0 b)

pub none_longer : NoneLonger
unfolding NoneLonger
none_longer bytes s e = let f = (taken_facts bytes s e).0 in omega arith

pub fraction_stands : FractionStands
unfolding FractionStands
fraction_stands bytes s e i d b =
    let t = taken_facts bytes s e in
    let k = fraction_count bytes / 2 in
    let n : i < k = omega (arith, ap (λ (x : Scan). length x.fractions) t.1, length_each (fraction_at bytes) 0 k) in
    rw t.1 (each_at (fraction_at bytes) 0 k i d n ∙ ap (fraction_at bytes) (omega arith))

pub observation_stands : ObservationStands
unfolding ObservationStands
observation_stands bytes s e i b =
    let t = taken_facts bytes s e in
    let k = fraction_count bytes / 2 in
    let o = observation_count bytes in
    let at = observation_at bytes k in
    let n : i < o = omega (arith, ap (λ (x : Scan). length x.observations) t.1, length_each at 0 o) in
    rw t.1 (
    each_at at 0 o i 0 n ∙ ap at (omega arith) ∙ ap (λ (j : ℕ). observation_at bytes j i) (sym (length_each (fraction_at bytes) 0 k))
    )

pub example_bytes : ExampleBytes
unfolding ExampleBytes bytes_of flat
example_bytes = refl

-- the words in the file of a scan
module _ (s : Scan) (fits : Fits s) where
  at : (i : ℕ) → word_at (encoded s) i ≡ get_or (words_of s) i 0
  at i = word_of (words_of s) fits.words i

  behind : (i k : ℕ) → i ≡ suc (suc (suc (suc k))) → word_at (encoded s) i ≡ get_or (flat s.fractions ++ section s.observations) k 0
  unfolding flat
  behind i k e = at i ∙ ap (λ (n : ℕ). get_or (words_of s) n 0) e

  count-fractions : fraction_count (encoded s) ≡ length (flat s.fractions)
  unfolding flat
  count-fractions = at 3

  count-observations : observation_count (encoded s) ≡ length s.observations
  count-observations =
      let fs = flat s.fractions in
      behind (4 + fraction_count (encoded s)) (length fs) (omega (arith, count-fractions))
      ∙ get_or_at fs (length s.observations) s.observations 0 (length fs) refl

  in-fractions : (i k : ℕ) → i ≡ 4 + k → k < length (flat s.fractions) → word_at (encoded s) i ≡ get_or (flat s.fractions) k 0
  in-fractions i k e h = behind i k (omega arith) ∙ get_or-append (flat s.fractions) (section s.observations) 0 k h

  in-observations : (i k : ℕ) → i ≡ 5 + length (flat s.fractions) + k → word_at (encoded s) i ≡ get_or s.observations k 0
  in-observations i k e =
      let fs = flat s.fractions in
      behind i (length fs + suc k) (omega arith) ∙ get_or-append-add fs (section s.observations) (suc k) 0

  facts : Facts (encoded s)
  unfolding flat
  facts =
      let fs = flat s.fractions in
      let x = fits.fractions_fit in
      let y = fits.observations_fit in
      record {
        epsilon = at 0;
        few = omega (arith, count-fractions);
        even = omega (arith, count-fractions, length_flat s.fractions);
        small = omega (arith, count-observations);
        long =
            omega (
              arith,
              count-fractions,
              count-observations,
              length_bytes (words_of s),
              length-append fs (section s.observations),
            );
      }

  halves : fraction_count (encoded s) / 2 ≡ length s.fractions
  halves = omega (arith, count-fractions, length_flat s.fractions)

  fraction-back : (k : ℕ) → k < length s.fractions → fraction_at (encoded s) (0 + k) ≡ get_or s.fractions k s.epsilon
  fraction-back k h =
      let fs = s.fractions in
      let d = s.epsilon in
      let l = length_flat fs in
      let p = in-fractions (4 + 2 * (0 + k)) (2 * k) (omega arith) (omega arith) ∙ flat_num d fs k h in
      let q = in-fractions (5 + 2 * (0 + k)) (suc (2 * k)) (omega arith) (omega arith) ∙ flat_den d fs k h in
      λ i. record { num = p i; den = q i }

  fractions-back : (scan_of (encoded s)).fractions ≡ s.fractions
  fractions-back =
      ap (each (fraction_at (encoded s)) 0) halves ∙ each_list (fraction_at (encoded s)) 0 s.fractions s.epsilon fraction-back

  observations-back : (scan_of (encoded s)).observations ≡ s.observations
  observations-back =
      let k = fraction_count (encoded s) / 2 in
      let from = observation_at (encoded s) k in
      let l = length_flat s.fractions in
      ap (each from 0) count-observations
      ∙ each_list from 0 s.observations 0 (λ j h. in-observations (5 + 2 * k + (0 + j)) j (omega (arith, halves)))

  epsilon-back : (scan_of (encoded s)).epsilon ≡ s.epsilon
  unfolding flat
  epsilon-back = λ i. record { num = at 1 i; den = at 2 i }

  scan-back : scan_of (encoded s) ≡ s
  scan-back = λ i. record { epsilon = epsilon-back i; fractions = fractions-back i; observations = observations-back i }

pub encoded_is_taken : EncodedIsTaken
unfolding EncodedIsTaken
encoded_is_taken s fits = facts_taken (encoded s) (facts s fits) ∙ ap Some (scan-back s fits)

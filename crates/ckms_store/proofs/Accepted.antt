-- An accepted call leaves a sound store, from any state that it accepts. Assumes nothing.
use mathlib.Core.Path.{◌≡◌, sym}
use Rattle.std.specs.Prelude.{Ok}
use Rattle.ckms_store_steps.specs.Answers.{state_of}
use Rattle.ckms_store_work.specs.Changes.{tidy_in}
use Rattle.ckms_store_steps.proofs.Sounds.{sound_rules, rules_sound}
use Rattle.ckms_store_work.proofs.Works.{put_sound, tidy_sound}
use Rattle.ckms_store.specs.Answers.{compressed}
use Rattle.ckms_store.specs.Promises.{SoundExactly, InsertSound, CompressSound}
use Rattle.ckms_store.proofs.Exactly.{tested_own, taken_tells}

pub sound_exactly : SoundExactly
unfolding SoundExactly
sound_exactly s list lens = (sound_rules s list lens, rules_sound s list lens)

pub insert_sound : InsertSound
unfolding InsertSound
insert_sound s list lens x next e =
    let t = taken_tells s list lens x next e in
    rw (e, sym t.3) (put_sound s list lens t.0 x t.1)

pub compress_sound : CompressSound
unfolding CompressSound compressed
compress_sound s list lens next e =
    let o =
    tested_own (Ok (state_of s s.n (tidy_in s list lens))) s list lens e (λ z. cc) (λ z. cc) in
    let w : state_of s s.n (tidy_in s list lens) ≡ next = let d = o.1 in cc in
    rw (e, sym w) (tidy_sound s list lens o.0)

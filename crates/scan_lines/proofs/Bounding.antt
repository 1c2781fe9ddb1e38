-- Demand 3 of a scan that stops at the first refusal: the accepted observations are the first n, and they explain the stream.
-- Assumes nothing.
use Rattle.std.specs.Prelude.{Ok}
use mathlib.Core.Path.{◌≡◌, sym, ◌∙◌}
use mathlib.Core.List.{List, []}
use native.Mathlib.Omega.{arith}
use lib.ListN.{take, length-take}
use Rattle.entries.specs.declared.Entry.{Entry}
use Rattle.entries.proofs.Maps.{same_words}
use Rattle.greenwald_khanna_steps.specs.declared.Stream.{Stream}
use Rattle.greenwald_khanna_steps.specs.Opening.{opened, opened_list}
use Rattle.noise_floor.proofs.Bounds.{good_opened, good_asked}
use Rattle.scan_file.specs.Layout.{Scan}
use Rattle.scan_put.proofs.Texts.{put_one}
use Rattle.scan_insert.proofs.Going.{Went, insert_good}
use Rattle.scan_lines.specs.Promises.{ValuesBounded, AllOrRefused, OneReport, end_from}

module _ (s : Scan) (list : List Entry) (st : Stream) (e : opened s.epsilon list ≡ Ok st) where
  went : Went s.epsilon [] s.observations (end_from s list st)
  went = insert_good s.epsilon [] s.observations st (opened_list s.epsilon list) (good_opened s.epsilon list st e)

  counted : (end_from s list st).ran.stream.n ≡ went.count
  counted = sym went.good.explained.members ∙ length-take went.count s.observations ∙ (let m = went.most in omega arith)

pub values_bounded : ValuesBounded
unfolding ValuesBounded
values_bounded s list st e φ =
    let w = went s list st e in
    rw (counted s list st e) (good_asked s.epsilon (take w.count s.observations) _ φ w.good)

pub all_or_refused : AllOrRefused
unfolding AllOrRefused
all_or_refused s list st e =
    let w = went s list st e in
    (λ z. counted s list st e ∙ w.whole z, λ number z. let h = w.cut number z in omega (arith, counted s list st e))

pub one_report : OneReport
unfolding OneReport
one_report bytes before out r s xs ys l m t u p q =
    let o = put_one r s l m p.written q.written in
    (o.0, same_words xs ys t u (p.left ∙ sym q.left), o.1)

-- What searches of contents keep.
use Rattle.content_store.specs.Contents.{ContentsModel, IsSource, KeepsContents}
use Rattle.std.proofs.Common.{arith}

pub keeps_start : {C : Type 0} {contents : ContentsModel C} → IsSource contents → (c : C) → KeepsContents contents c c
keeps_start laws c = record {
  map = λ m h. h;
  answers = λ name found h. h;
  answers_stay = λ name found h. h;
  damage = λ told path h. h;
  damage_stays = λ told path h. h;
  later = omega arith;
  searched = laws.none c;
}

pub keeps_then : {C : Type 0} {contents : ContentsModel C} → IsSource contents → {a b c : C} → KeepsContents contents a b → KeepsContents contents b c → KeepsContents contents a c
keeps_then laws {a = a} {b = b} {c = c} first then = record {
  map = λ m h. then.map m (first.map m h);
  answers = λ name found h. first.answers name found (then.answers name found h);
  answers_stay = λ name found h. then.answers_stay name found (first.answers_stay name found h);
  damage = λ told path h. first.damage told path (then.damage told path h);
  damage_stays = λ told path h. then.damage_stays told path (first.damage_stays told path h);
  later = omega (arith, first.later, then.later);
  searched = laws.next a b c first.searched then.searched;
}

use Rattle.std.proofs.Common.{◌≡◌, ◌∙◌, ap, ℕ, List, take, drop}
use Rattle.cny_dep.specs.declared.parts.FlavorFlag.{FlavorFlag}
use Rattle.cny_dep.specs.declared.parts.Sense.{Sense}
use Rattle.cny_dep.specs.FlavorReading.{flag_at, flag_from, sense_at, word_len}
use Rattle.cny_dep.proofs.flavor_reading.flag_of.Goals as goal

flag_and : Sense → List ℕ → List ℕ → FlavorFlag × List ℕ
flag_and sense word rest = (record { sense = sense; word = word }, rest)

flag_same : (sense : Sense) (bytes word rest : List ℕ) (s : Sense × List ℕ) → (sense, bytes) ≡ s → word ≡ take (word_len bytes) bytes → rest ≡ drop (word_len bytes) bytes
    → flag_and sense word rest ≡ flag_from s
unfolding flag_and
flag_same sense bytes word rest s is word_is rest_is = ap (λ w. flag_and sense w rest) word_is ∙ ap (flag_and sense (take (word_len bytes) bytes)) rest_is ∙ ap flag_from is

pub returns : goal.returns
unfolding flag_at flag_and
returns c =
    flag_same c.sense_of-sense.result.0 c.sense_of-sense.result.1.now c.in_ok-word.word c.split_word.result.1.now (sense_at c.args.bytes.now) c.sense_of-sense.ensures
    (c.in_ok-word.ensures ∙ c.split_word.ensures.word) c.split_word.ensures.rest

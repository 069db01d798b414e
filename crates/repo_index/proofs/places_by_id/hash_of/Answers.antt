use Rattle.std.proofs.Common.{◌≡◌, ap, ◌∙◌}
use Rattle.std.specs.Hash.DefaultHasher as sip
use Rattle.cny_version.specs.Version.{version_text}
use Rattle.repo_index.specs.Hashes.{hash_of, with_text}
use Rattle.repo_index.proofs.places_by_id.hash_of.Goals as goal

pub returns : goal.returns
unfolding hash_of
returns c =
    let id = c.args.id.now in
    let name : c.hash.new.state ≡ with_text sip.initial id.name =
    c.hash.ensures ∙ ap (λ s. with_text s c.text.result.now) c.new-state.ensures ∙ ap (with_text sip.initial) c.text.ensures.value in
    let version : c.hash-2.new.state ≡ with_text (with_text sip.initial id.name) (version_text id.version) =
    c.hash-2.ensures ∙ ap (λ s. with_text s c.text-2.result.now) name ∙ ap (with_text (with_text sip.initial id.name)) c.text-2.ensures.value in
    c.finish.ensures ∙ ap sip.finish
    (c.hash-3.ensures ∙ ap (λ s. with_text s c.text-3.result.now) version ∙ ap (with_text (with_text (with_text sip.initial id.name) (version_text id.version))) c.text-3.ensures.value)

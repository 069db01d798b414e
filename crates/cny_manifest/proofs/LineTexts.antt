-- The text of each line, and what is read of it.
use Rattle.std.proofs.Common.{◌≡◌, ℕ, zero, suc, ◌≤◌, Bool, true, false, cond, ◌&&◌, ◌==◌, List, [], ◌∷◌, ◌++◌, length, take, drop, Option, Some, None, refl, sym, ap, subst, ◌∙◌, append_assoc, take-append-drop, arith, codes}
use Rattle.std.specs.Prelude.{not, ◌||◌, leb}
use Rattle.std.specs.List.{position, list_all}
use Rattle.std.specs.Str.{bytes_eq}
use Rattle.std.specs.Fmt.{decimal}
use Rattle.std.proofs.lemmas.Bool.{eqb-true}
use Rattle.manifest_troves.specs.cny-base.Name.{is_name, is_word, is_colon, kind_of_name}
use Rattle.manifest_troves.specs.cny-base.Number.{octal_text}
use Rattle.manifest_troves.specs.cny-base.Path.{is_path, are_parts}
use Rattle.manifest_troves.specs.cny-base.Target.{is_target}
use Rattle.manifest_troves.specs.cny-base.declared.name.NameKind.{NameKind}
use Rattle.manifest_troves.specs.cny-base.declared.name.NameKind.TheVariants.{Component, Package, Group}
use Rattle.cny_version.specs.Version.{WholeVersion}
use Rattle.manifest_troves.specs.cny-stream.declared.record.Flags.{Flags}
use Rattle.manifest_troves.specs.cny-stream.Owner.{OwnerNames, is_owner, is_owner_word, root_owner}
use Rattle.manifest_troves.specs.declared.lines.DepLine.{DepLine}
use Rattle.cny_manifest.specs.declared.entries.DirLine.{DirLine}
use Rattle.cny_manifest.specs.declared.entries.FileLine.{FileLine}
use Rattle.cny_manifest.specs.declared.words.Word.{Word}
use Rattle.cny_manifest.specs.declared.words.Word.TheVariants as word
use Rattle.cny_manifest.specs.declared.words.WholeLine.TheVariants as whole
use Rattle.cny_manifest.specs.Body.{Body, can_record, path_can_come, path_next, file_next}
use Rattle.cny_manifest.specs.Entries.{path_of, names_if, owner_of, owner_at, dir_of, begins_as, behind, flags_of, behind_flags, sized_file, file_of, target_of}
use Rattle.cny_manifest.specs.Grammar.{magic_of, kind_word, name_if, name_of, IsVersionField, IsVersionLine, IsDepField, IsDepFields}
use Rattle.cny_manifest.specs.Lines.{◌&>◌, cut_at, field_at, after, mode_of, size_of, word_of, word_at}
use Rattle.cny_manifest.specs.Spelling.{magic_line, name_line, version_line, owner_words, word_if, flag_words, IsOwnerHere}
use Rattle.cny_manifest.proofs.FieldTexts.{bind_some, some_is, cut_by, field_takes, after_takes, Without, without_all, cut_again, field_again, after_again, mode_takes, mode_again, size_takes, size_again, mode_without, size_without, word_without, name_without}
use Rattle.cny_version.proofs.cny-base.Doubling.{both}
use Rattle.cny_version.proofs.cny-base.ByteLists.{bytes_itself as bytes_same, bytes_mean as same_bytes}
use Rattle.cny_version.proofs.cny-base.Again.{not_true as is_not}
use Rattle.manifest_troves.proofs.cny-stream.Fields.{guarded as then_some}

abbrev no_space : ℕ → Bool
no_space b = not (b == 32)

clean : (text : List ℕ) → list_all no_space text ≡ true → Without 32 text
clean text e = without_all 32 no_space (λ b h. is_not (b == 32) h) text e

-- ---- the first three lines

magic_by : (first second : Bool) (text : List ℕ) (owners : Bool) → bytes_eq text (codes "manifest 1") ≡ first → bytes_eq text (codes "manifest 2") ≡ second
    → cond first (Some false) (cond second (Some true) None) ≡ Some owners → text ≡ magic_line owners
magic_by true second text owners a b e = subst (λ (o : Bool). text ≡ magic_line o) (some_is false owners e) (same_bytes text (codes "manifest 1") a)
magic_by false true text owners a b e = subst (λ (o : Bool). text ≡ magic_line o) (some_is true owners e) (same_bytes text (codes "manifest 2") b)
magic_by false false text owners a b e = absurd cc

pub magic_takes : (text : List ℕ) (owners : Bool) → magic_of text ≡ Some owners → text ≡ magic_line owners
unfolding magic_of
magic_takes text owners e = magic_by (bytes_eq text (codes "manifest 1")) (bytes_eq text (codes "manifest 2")) text owners refl refl e

pub magic_again : (owners : Bool) → magic_of (magic_line owners) ≡ Some owners
unfolding magic_of
magic_again true = refl
magic_again false = refl

kind_without : (kind : NameKind) → Without 32 (kind_word kind)
kind_without Component = clean (codes "component") refl
kind_without Package = clean (codes "package") refl
kind_without Group = clean (codes "group") refl

pub name_takes : (text name : List ℕ) → name_of text ≡ Some name → (text ≡ name_line name) × (is_name name ≡ true)
unfolding name_of
name_takes text name e =
    let f = bind_some (field_at text) name_if name e in
    let t = then_some (is_name f.0.1 && bytes_eq f.0.0 (kind_word (kind_of_name f.0.1))) f.0.1 name f.2 in
    let b = both (is_name f.0.1) (bytes_eq f.0.0 (kind_word (kind_of_name f.0.1))) t.0 in
    let spelled : text ≡ name_line f.0.1 = field_takes text f.0 f.1 ∙ ap (λ (x : List ℕ). x ++ 32 ∷ f.0.1) (same_bytes f.0.0 (kind_word (kind_of_name f.0.1)) b.1) in
    subst (λ (n : List ℕ). (text ≡ name_line n) × (is_name n ≡ true)) t.1 (spelled, b.0)

pub name_again : (name : List ℕ) → is_name name ≡ true → name_of (name_line name) ≡ Some name
unfolding name_of
name_again name is =
    let k = kind_word (kind_of_name name) in
    ap (λ (o : Option (List ℕ × List ℕ)). o &> name_if) (field_again k name (kind_without (kind_of_name name))) ∙ rw (is, bytes_same k) refl

pub version_takes : (text : List ℕ) (version : WholeVersion) → IsVersionLine text version → (field : List ℕ) × IsVersionField field version × (text ≡ version_line field)
version_takes text version is = (is.field, is.is, after_takes (codes "version ") text is.field is.word)

pub version_again : (field : List ℕ) (version : WholeVersion) → IsVersionField field version → IsVersionLine (version_line field) version
version_again field version is = record { field = field; word = after_again (codes "version ") field; is = is }

-- ---- words

abbrev pub word_text : Word → List ℕ
word_text (word.Whole whole.Flavor) = codes "flavor"
word_text (word.Whole whole.Ref) = codes "ref"
word_text (word.Whole whole.Requires) = codes "requires"
word_text (word.Whole whole.Provides) = codes "provides"
word_text (word.Whole whole.Dir) = codes "dir"
word_text word.File = codes "file"
word_text word.Link = codes "link"

word_without_space : (w : Word) → Without 32 (word_text w)
word_without_space (word.Whole whole.Flavor) = clean (codes "flavor") refl
word_without_space (word.Whole whole.Ref) = clean (codes "ref") refl
word_without_space (word.Whole whole.Requires) = clean (codes "requires") refl
word_without_space (word.Whole whole.Provides) = clean (codes "provides") refl
word_without_space (word.Whole whole.Dir) = clean (codes "dir") refl
word_without_space word.File = clean (codes "file") refl
word_without_space word.Link = clean (codes "link") refl

word_is : (w : Word) → word_of (word_text w) ≡ Some w
unfolding word_of
word_is (word.Whole whole.Flavor) = refl
word_is (word.Whole whole.Ref) = refl
word_is (word.Whole whole.Requires) = refl
word_is (word.Whole whole.Provides) = refl
word_is (word.Whole whole.Dir) = refl
word_is word.File = refl
word_is word.Link = refl

pub word_again : (w : Word) (fields : List ℕ) → word_at (word_text w ++ 32 ∷ fields) ≡ Some (w, fields)
word_again w fields = rw (field_again (word_text w) fields (word_without_space w), word_is w) refl

word_if_same : (same : Bool) (text of : List ℕ) (x w : Word) (o : Option Word) → bytes_eq text of ≡ same → cond same (Some x) o ≡ Some w → of ≡ word_text x → (o ≡ Some w → text ≡ word_text w)
    → text ≡ word_text w
word_if_same true text of x w o same e is more = same_bytes text of same ∙ is ∙ ap word_text (some_is x w e)
word_if_same false text of x w o same e is more = more e

word_step : (text of : List ℕ) (x w : Word) (o : Option Word) → cond (bytes_eq text of) (Some x) o ≡ Some w → of ≡ word_text x → (o ≡ Some w → text ≡ word_text w) → text ≡ word_text w
word_step text of x w o e is more = word_if_same (bytes_eq text of) text of x w o refl e is more

no_word : {X : Type 0} (w : Word) → ◌≡◌ {A = Option Word} None (Some w) → X
no_word w e = absurd cc

word_of_takes : (text : List ℕ) (w : Word) → word_of text ≡ Some w → text ≡ word_text w
unfolding word_of
word_of_takes text w e =
    word_step text (codes "dir") (word.Whole whole.Dir) w _ e refl (λ e1.
    word_step text (codes "file") word.File w _ e1 refl (λ e2.
    word_step text (codes "link") word.Link w _ e2 refl (λ e3.
    word_step text (codes "requires") (word.Whole whole.Requires) w _ e3 refl (λ e4.
    word_step text (codes "provides") (word.Whole whole.Provides) w _ e4 refl (λ e5.
    word_step text (codes "ref") (word.Whole whole.Ref) w _ e5 refl (λ e6.
    word_step text (codes "flavor") (word.Whole whole.Flavor) w None e6 refl (λ e7. no_word w e7)))))))

pub word_takes : (text : List ℕ) (w : Word) (fields : List ℕ) → word_at text ≡ Some (w, fields) → text ≡ word_text w ++ 32 ∷ fields
word_takes text w fields e =
    let a = bind_some (field_at text) (λ front. word_of front.0 &> λ x. Some (x, front.1)) (w, fields) e in
    let b = bind_some (word_of a.0.0) (λ x. Some (x, a.0.1)) (w, fields) a.2 in
    let spelled : text ≡ word_text b.0 ++ 32 ∷ a.0.1 = field_takes text a.0 a.1 ∙ ap (λ (x : List ℕ). x ++ 32 ∷ a.0.1) (word_of_takes a.0.0 b.0 b.1) in
    subst (λ (x : Word × List ℕ). text ≡ word_text x.0 ++ 32 ∷ x.1) (some_is (b.0, a.0.1) (w, fields) b.2) spelled

-- ---- dependencies

pub dep_takes : (fields : List ℕ) (line : DepLine) → IsDepFields fields line → (text : List ℕ) × IsDepField text line.dep × (is_name line.name ≡ true) × (fields ≡ line.name ++ 32 ∷ text)
dep_takes fields line is = (is.rest, is.dep, is.name, field_takes fields (line.name, is.rest) is.split)

pub dep_again : (text : List ℕ) (line : DepLine) → IsDepField text line.dep → is_name line.name ≡ true → IsDepFields (line.name ++ 32 ∷ text) line
dep_again text line is name = record { rest = text; split = field_again line.name text (name_without line.name name); name = name; dep = is }

-- ---- owners

owner_of_takes : (text : List ℕ) (owner : OwnerNames) → owner_of text ≡ Some owner → (text ≡ owner.user ++ 58 ∷ owner.group) × (is_owner owner ≡ true)
unfolding owner_of
owner_of_takes text owner e =
    let a = bind_some (cut_at text (position is_colon text)) names_if owner e in
    let named : OwnerNames = record { user = a.0.0; group = a.0.1 } in
    let b = then_some (is_owner named) named owner a.2 in
    subst (λ (o : OwnerNames). (text ≡ o.user ++ 58 ∷ o.group) × (is_owner o ≡ true)) b.1 (cut_by 58 text (position is_colon text) a.0 refl a.1, b.0)

owner_of_again : (owner : OwnerNames) → is_owner owner ≡ true → owner_of (owner.user ++ 58 ∷ owner.group) ≡ Some owner
unfolding owner_of
owner_of_again owner is =
    let user = both (is_owner_word owner.user) (is_owner_word owner.group) is in
    ap (λ (o : Option (List ℕ × List ℕ)). o &> names_if) (cut_again 58 owner.user owner.group (word_without 58 refl owner.user (both (leb (length owner.user) 32) (is_word owner.user) user.0).1))
    ∙ rw is refl

owner_apart : (user group rest : List ℕ) → (user ++ 58 ∷ group) ++ 32 ∷ rest ≡ (user ++ 58 ∷ (group ++ 32 ∷ [])) ++ rest
owner_apart user group rest =
    append_assoc user (58 ∷ group) (32 ∷ rest)
    ∙ ap (λ (l : List ℕ). user ++ 58 ∷ l) (sym (append_assoc group (32 ∷ []) rest))
    ∙ sym (append_assoc user (58 ∷ (group ++ 32 ∷ [])) rest)

pub owner_takes : (owners : Bool) (text : List ℕ) (owned : OwnerNames × List ℕ) → owner_at owners text ≡ Some owned → (text ≡ owner_words owners owned.0 ++ owned.1) × IsOwnerHere owners owned.0
unfolding owner_at
owner_takes false text owned e = subst (λ (o : OwnerNames × List ℕ). (text ≡ owner_words false o.0 ++ o.1) × IsOwnerHere false o.0) (some_is (root_owner, text) owned e) (refl, refl)
owner_takes true text owned e =
    let a = bind_some (field_at text) (λ front. owner_of front.0 &> λ owner. Some (owner, front.1)) owned e in
    let b = bind_some (owner_of a.0.0) (λ owner. Some (owner, a.0.1)) owned a.2 in
    let named = owner_of_takes a.0.0 b.0 b.1 in
    let spelled : text ≡ owner_words true b.0 ++ a.0.1 = field_takes text a.0 a.1 ∙ ap (λ (x : List ℕ). x ++ 32 ∷ a.0.1) named.0 ∙ owner_apart b.0.user b.0.group a.0.1 in
    subst (λ (o : OwnerNames × List ℕ). (text ≡ owner_words true o.0 ++ o.1) × IsOwnerHere true o.0) (some_is (b.0, a.0.1) owned b.2) (spelled, named.1)

names_without : (user group : List ℕ) → Without 32 user → Without 32 group → Without 32 (user ++ 58 ∷ group)
names_without [] group u g = without_first group g
  where
    without_first : (group : List ℕ) → Without 32 group → Without 32 (58 ∷ group)
    without_first group g zero lt = refl
    without_first group g (suc k) lt = g k (omega arith)
names_without (x ∷ user) group u g = more x user group u g (names_without user group (λ k lt. u (suc k) (omega arith)) g)
  where
    more : (x : ℕ) (user group : List ℕ) → Without 32 (x ∷ user) → Without 32 group → Without 32 (user ++ 58 ∷ group) → Without 32 (x ∷ (user ++ 58 ∷ group))
    more x user group u g w zero lt = u zero (omega arith)
    more x user group u g w (suc k) lt = w k (omega arith)

pub owner_again : (owners : Bool) (owner : OwnerNames) (rest : List ℕ) → IsOwnerHere owners owner → owner_at owners (owner_words owners owner ++ rest) ≡ Some (owner, rest)
unfolding owner_at
owner_again false owner rest is = ap (λ (o : OwnerNames). Some (o, rest)) (sym is)
owner_again true owner rest is =
    let words = both (is_owner_word owner.user) (is_owner_word owner.group) is in
    let user = word_without 32 refl owner.user (both (leb (length owner.user) 32) (is_word owner.user) words.0).1 in
    let group = word_without 32 refl owner.group (both (leb (length owner.group) 32) (is_word owner.group) words.1).1 in
    ap (λ (t : List ℕ). field_at t &> λ front. owner_of front.0 &> λ found. Some (found, front.1)) (sym (owner_apart owner.user owner.group rest))
    ∙ rw (field_again (owner.user ++ 58 ∷ owner.group) rest (names_without owner.user owner.group user group), owner_of_again owner is) refl

-- ---- directories and files

pub record TakesDir (owners : Bool) (fields : List ℕ) (line : DirLine) : Type 0 where
  pub spelled : fields ≡ octal_text line.mode ++ 32 ∷ (owner_words owners line.owner ++ line.path)
  pub mode : line.mode ≤ 4095
  pub owner : IsOwnerHere owners line.owner
  pub path : is_path line.path ≡ true

pub dir_takes : (owners : Bool) (fields : List ℕ) (line : DirLine) → dir_of owners fields ≡ Some line → TakesDir owners fields line
unfolding dir_of
dir_takes owners fields line e =
    let a = bind_some (field_at fields) (λ first. mode_of first.0 &> λ mode. owner_at owners first.1 &> λ owned. path_of owned.1 &> λ path. Some (record { mode = mode; owner = owned.0; path = path })) line e in
    let b = bind_some (mode_of a.0.0) (λ mode. owner_at owners a.0.1 &> λ owned. path_of owned.1 &> λ path. Some (record { mode = mode; owner = owned.0; path = path })) line a.2 in
    let c = bind_some (owner_at owners a.0.1) (λ owned. path_of owned.1 &> λ path. Some (record { mode = b.0; owner = owned.0; path = path })) line b.2 in
    let d = bind_some (path_of c.0.1) (λ path. Some (record { mode = b.0; owner = c.0.0; path = path })) line c.2 in
    let p = then_some (is_path c.0.1) c.0.1 d.0 d.1 in
    let m = mode_takes a.0.0 b.0 b.1 in
    let o = owner_takes owners a.0.1 c.0 c.1 in
    subst (λ (l : DirLine). TakesDir owners fields l) (some_is _ line d.2) (record {
      spelled = field_takes fields a.0 a.1 ∙ ap (λ (x : List ℕ). x ++ 32 ∷ a.0.1) m.0
          ∙ ap (λ (x : List ℕ). octal_text b.0 ++ 32 ∷ x) (o.0 ∙ ap (λ (x : List ℕ). owner_words owners c.0.0 ++ x) p.1);
      mode = m.1;
      owner = o.1;
      path = ap is_path (sym p.1) ∙ p.0;
    })

pub dir_again : (owners : Bool) (mode : ℕ) (owner : OwnerNames) (path : List ℕ) → mode ≤ 4095 → IsOwnerHere owners owner → is_path path ≡ true
    → dir_of owners (octal_text mode ++ 32 ∷ (owner_words owners owner ++ path)) ≡ Some (record { mode = mode; owner = owner; path = path })
unfolding dir_of
dir_again owners mode owner path small own is =
    rw (field_again (octal_text mode) (owner_words owners owner ++ path) (mode_without mode), mode_again mode small, owner_again owners owner path own, is) refl

-- the words of flags in front of a path
behind_is : (front text : List ℕ) (same : Bool) → bytes_eq (take (length front) text) front ≡ same → text ≡ word_if same front ++ cond same (drop (length front) text) text
behind_is front text true e = sym (take-append-drop (length front) text) ∙ ap (λ (x : List ℕ). x ++ drop (length front) text) (same_bytes (take (length front) text) front e)
behind_is front text false e = refl

flags_taken : (text : List ℕ) → text ≡ flag_words (flags_of text) ++ behind_flags text
flags_taken text =
    let c = codes "config " in
    let i = codes "initial " in
    let t = codes "transient " in
    let one = behind c text in
    let two = behind i one in
    let first : text ≡ word_if (begins_as c text) c ++ one = behind_is c text (begins_as c text) refl in
    let second : one ≡ word_if (begins_as i one) i ++ two = behind_is i one (begins_as i one) refl in
    let third : two ≡ word_if (begins_as t two) t ++ behind t two = behind_is t two (begins_as t two) refl in
    let x = word_if (begins_as c text) c in
    let y = word_if (begins_as i one) i in
    let z = word_if (begins_as t two) t in
    first ∙ ap (λ (l : List ℕ). x ++ l) (second ∙ ap (λ (l : List ℕ). y ++ l) third ∙ sym (append_assoc y z (behind t two))) ∙ sym (append_assoc x (y ++ z) (behind t two))

abbrev FlagsBack : Flags → List ℕ → Type 0
FlagsBack flags path = (flags_of (flag_words flags ++ path) ≡ flags) × (behind_flags (flag_words flags ++ path) ≡ path)

flags_back : (config initial transient : Bool) (bs : List ℕ) → FlagsBack (record { config = config; initial = initial; transient = transient }) (47 ∷ bs)
flags_back true true true bs = (refl, refl)
flags_back true true false bs = (refl, refl)
flags_back true false true bs = (refl, refl)
flags_back true false false bs = (refl, refl)
flags_back false true true bs = (refl, refl)
flags_back false true false bs = (refl, refl)
flags_back false false true bs = (refl, refl)
flags_back false false false bs = (refl, refl)

flags_again : (flags : Flags) (path : List ℕ) → is_path path ≡ true → FlagsBack flags path
flags_again flags [] is = absurd cc
flags_again flags (b ∷ bs) is =
    let slash : b ≡ 47 = eqb-true b 47 (both (b == 47) (length bs == 0 || (leb (length bs) 1023 && are_parts bs)) is).0 in
    subst (λ (x : ℕ). FlagsBack flags (x ∷ bs)) (sym slash) (flags_back flags.config flags.initial flags.transient bs)

abbrev pub file_fields : Bool → FileLine → List ℕ
file_fields owners line = octal_text line.mode ++ 32 ∷ (decimal line.size ++ 32 ∷ (owner_words owners line.owner ++ (flag_words line.flags ++ line.path)))

pub record TakesFile (owners : Bool) (fields : List ℕ) (line : FileLine) : Type 0 where
  pub spelled : fields ≡ file_fields owners line
  pub mode : line.mode ≤ 4095
  pub owner : IsOwnerHere owners line.owner
  pub path : is_path line.path ≡ true

pub record TakesSized (owners : Bool) (mode size : ℕ) (text : List ℕ) (line : FileLine) : Type 0 where
  mode_is : line.mode ≡ mode
  size_is : line.size ≡ size
  spelled : text ≡ owner_words owners line.owner ++ (flag_words line.flags ++ line.path)
  owner : IsOwnerHere owners line.owner
  path : is_path line.path ≡ true

pub sized_takes : (owners : Bool) (mode size : ℕ) (text : List ℕ) (line : FileLine) → sized_file owners mode size text ≡ Some line → TakesSized owners mode size text line
unfolding sized_file
sized_takes owners mode size text line e =
    let a = bind_some (owner_at owners text) (λ owned. path_of (behind_flags owned.1) &> λ path. Some (record { mode = mode; size = size; owner = owned.0; flags = flags_of owned.1; path = path })) line e in
    let b = bind_some (path_of (behind_flags a.0.1)) (λ path. Some (record { mode = mode; size = size; owner = a.0.0; flags = flags_of a.0.1; path = path })) line a.2 in
    let p = then_some (is_path (behind_flags a.0.1)) (behind_flags a.0.1) b.0 b.1 in
    let o = owner_takes owners text a.0 a.1 in
    subst (λ (l : FileLine). TakesSized owners mode size text l) (some_is _ line b.2) (record {
      mode_is = refl;
      size_is = refl;
      spelled = o.0 ∙ ap (λ (x : List ℕ). owner_words owners a.0.0 ++ x) (flags_taken a.0.1 ∙ ap (λ (x : List ℕ). flag_words (flags_of a.0.1) ++ x) p.1);
      owner = o.1;
      path = ap is_path (sym p.1) ∙ p.0;
    })

sized_again : (owners : Bool) (line : FileLine) → IsOwnerHere owners line.owner → is_path line.path ≡ true
    → sized_file owners line.mode line.size (owner_words owners line.owner ++ (flag_words line.flags ++ line.path)) ≡ Some line
unfolding sized_file
sized_again owners line own is =
    let back = flags_again line.flags line.path is in
    rw (owner_again owners line.owner (flag_words line.flags ++ line.path) own, back.0, back.1, is) refl

pub file_takes : (owners : Bool) (fields : List ℕ) (line : FileLine) → file_of owners fields ≡ Some line → TakesFile owners fields line
unfolding file_of
file_takes owners fields line e =
    let a = bind_some (field_at fields) (λ first. mode_of first.0 &> λ mode. field_at first.1 &> λ second. size_of second.0 &> λ size. sized_file owners mode size second.1) line e in
    let b = bind_some (mode_of a.0.0) (λ mode. field_at a.0.1 &> λ second. size_of second.0 &> λ size. sized_file owners mode size second.1) line a.2 in
    let c = bind_some (field_at a.0.1) (λ second. size_of second.0 &> λ size. sized_file owners b.0 size second.1) line b.2 in
    let d = bind_some (size_of c.0.0) (λ size. sized_file owners b.0 size c.0.1) line c.2 in
    let m = mode_takes a.0.0 b.0 b.1 in
    let s = sized_takes owners b.0 d.0 c.0.1 line d.2 in
    let rest : List ℕ = owner_words owners line.owner ++ (flag_words line.flags ++ line.path) in
    record {
      spelled = field_takes fields a.0 a.1 ∙ ap (λ (x : List ℕ). x ++ 32 ∷ a.0.1) (m.0 ∙ ap octal_text (sym s.mode_is))
          ∙ ap (λ (x : List ℕ). octal_text line.mode ++ 32 ∷ x)
          (field_takes a.0.1 c.0 c.1 ∙ ap (λ (x : List ℕ). x ++ 32 ∷ c.0.1) (size_takes c.0.0 d.0 d.1 ∙ ap decimal (sym s.size_is)) ∙ ap (λ (x : List ℕ). decimal line.size ++ 32 ∷ x) s.spelled);
      mode = subst (λ (n : ℕ). n ≤ 4095) (sym s.mode_is) m.1;
      owner = s.owner;
      path = s.path;
    }

pub file_again : (owners : Bool) (line : FileLine) → line.mode ≤ 4095 → line.size ≤ 16777216 → IsOwnerHere owners line.owner → is_path line.path ≡ true → file_of owners (file_fields owners line) ≡ Some line
unfolding file_of
file_again owners line small fits own is =
    rw (
      field_again (octal_text line.mode) (decimal line.size ++ 32 ∷ (owner_words owners line.owner ++ (flag_words line.flags ++ line.path))) (mode_without line.mode),
      mode_again line.mode small,
      field_again (decimal line.size) (owner_words owners line.owner ++ (flag_words line.flags ++ line.path)) (size_without line.size fits),
      size_again line.size fits,
    ) (sized_again owners line own is)

-- ---- entries that may come next

pub target_takes : (text target : List ℕ) → target_of text ≡ Some target → (text ≡ codes "target " ++ target) × (is_target target ≡ true)
unfolding target_of
target_takes text target e =
    let a = bind_some (after (codes "target ") text) (λ t. cond (is_target t) (Some t) None) target e in
    let b = then_some (is_target a.0) a.0 target a.2 in
    subst (λ (t : List ℕ). (text ≡ codes "target " ++ t) × (is_target t ≡ true)) b.1 (after_takes (codes "target ") text a.0 a.1, b.0)

pub target_again : (target : List ℕ) → is_target target ≡ true → target_of (codes "target " ++ target) ≡ Some target
unfolding target_of
target_again target is = rw (after_again (codes "target ") target, is) refl

pub path_takes : (b : Body) (fields path : List ℕ) → path_next b fields ≡ Some path → (fields ≡ path) × (is_path path ≡ true) × (can_record b path ≡ true)
path_takes b fields path e =
    let a = bind_some (path_of fields) (λ p. cond (can_record b p) (Some p) None) path e in
    let p = then_some (is_path fields) fields a.0 a.1 in
    let c = then_some (can_record b a.0) a.0 path a.2 in
    (p.1 ∙ c.1, ap is_path (sym (p.1 ∙ c.1)) ∙ p.0, ap (can_record b) (sym c.1) ∙ c.0)

pub path_again : (b : Body) (path : List ℕ) → is_path path ≡ true → can_record b path ≡ true → path_next b path ≡ Some path
path_again b path is can = rw (is, can) refl

pub file_next_takes : (b : Body) (fields : List ℕ) (line : FileLine) → file_next b fields ≡ Some line → (file_of b.owners fields ≡ Some line) × (can_record b line.path ≡ true)
file_next_takes b fields line e =
    let a = bind_some (file_of b.owners fields) (path_can_come b) line e in
    let c = then_some (can_record b a.0.path) a.0 line a.2 in
    (a.1 ∙ ap (λ (l : FileLine). Some l) c.1, ap (λ (l : FileLine). can_record b l.path) (sym c.1) ∙ c.0)

pub file_next_again : (b : Body) (fields : List ℕ) (line : FileLine) → file_of b.owners fields ≡ Some line → can_record b line.path ≡ true → file_next b fields ≡ Some line
file_next_again b fields line is can = rw (is, can) refl

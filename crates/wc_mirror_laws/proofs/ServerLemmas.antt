-- What follows of servers reaches the client that follows, like any other change.
use Rattle.std.proofs.Common.{◌≡◌, ℕ, Bool, true, false, cond, List, [], ◌∷◌, ◌++◌, map, Option, Some, None, Result, Ok, Err, inl, inr, refl, sym, subst}
use Rattle.std.specs.List.{flat_map}
use Rattle.std.specs.Str.{is_utf8}
use Rattle.wc_text.specs.Lossy.{lossy_of}
use Rattle.wc_text.specs.Splits.{BeginsWithout}
use Rattle.wc_text.specs.declared.names.Cause.{Cause}
use Rattle.wc_text.specs.declared.names.Handle.{Handle}
use Rattle.wc_outside.specs.Keyed.{at_key, without}
use Rattle.wc_buffers.specs.Calls.{handle_of_name}
use Rattle.wc_model.specs.declared.change.Change.{Change}
use Rattle.wc_model.specs.declared.change.What.{What}
use Rattle.wc_model.specs.declared.change.What.TheVariants as what
use Rattle.wc_model.specs.declared.refused.ChangeRefused.{ChangeRefused}
use Rattle.wc_options.specs.Options.{OptionsValue}
use Rattle.wc_ircmsg.specs.declared.message.Message.{Message}
use Rattle.wc_ircmsg.specs.declared.message.LineRefused.{LineRefused}
use Rattle.wc_ircmsg.specs.Answers.{reading_of}
use Rattle.wc_irc.specs.declared.act.Act.{Act as ServerAct}
use Rattle.wc_irc.specs.declared.act.Act.TheVariants as act
use Rattle.wc_irc.specs.CloseActs.{close_acts}
use Rattle.wc_irc.specs.LinkActs.{first_acts, after_connect, loss_acts}
use Rattle.wc_irc.specs.ServerActs.{acts_of_server, after_server}
use Rattle.wc_irc.specs.Servers.{ServerState}
use Rattle.wc_board.specs.Told.{is_close}
use Rattle.wc_servers.specs.Outs.{Out, SendsLine, Parts, quit_outs}
use Rattle.wc_servers.specs.Seats.{ServerSeat, server_link, ended}
use Rattle.wc_servers.specs.Texts.{is_change_text}
use Rattle.wc_core.specs.Resolved.{change_of, null, refusal_text}
use Rattle.wc_core.specs.State.{State, Act, Serves, Quits, Stage, Stepped}
use Rattle.wc_core.specs.Step.{no_step, change_step_if, refused, refusal_step}
use Rattle.wc_core.specs.Served.{messages_to}
use Rattle.wc_core.specs.ServerSteps.{dated, say_step, told_step_if, try_step, on_step, send_step, act_step, acts_step, leave_server, server_loss_step, leave_in, loss_step_if, server_acts_step, with_server, message_step, server_line_step, stands_step, server_of, parting_step, before_step, quit_way, quit_step}
use Rattle.wc_core.specs.Changing.{put_step, reach_step, then_does}
use Rattle.wc_mirror_laws.specs.Changes.{IsAsked}
use Rattle.wc_mirror_laws.specs.Held.{HeldPart, Has}
use Rattle.wc_mirror_laws.specs.Kept.{IsStateKept}
use Rattle.wc_hotlist.specs.Means.{Means}
use Rattle.wc_hotlist.specs.Pairs.{HotPair}
use Rattle.wc_mirror_laws.specs.Mirrors.{fold_all}
use Rattle.wc_mirror_laws.specs.News.{AreStages}
use Rattle.wc_mirror_laws.proofs.ChangeLemmas.{Tells, Tells-stays, Tells-then, Tells-changes, Tells-tells}
use Rattle.wc_mirror_laws.proofs.LimitLemmas.{counts_same}
use Rattle.wc_mirror_laws.proofs.MildCommands.{mild_first, mild_loss, mild_close}
use Rattle.wc_mirror_laws.proofs.MildLemmas.{IsMild, IsMildAct, AreMild, mild_told, mild_dated}
use Rattle.wc_mirror_laws.proofs.MildMessages.{mild_message}
use Rattle.wc_mirror_laws.proofs.NewsLemmas.{News, news_put, news_then}
use Rattle.wc_mirror_laws.proofs.TellingLemmas.{AllSpelt}

-- what goes out for servers is for no client
serves_none : (link : ℕ) (outs : List Out) (acts : List Act) → messages_to link (map Serves outs ++ acts) ≡ messages_to link acts
serves_none link [] acts = refl
serves_none link (out ∷ outs) acts = serves_none link outs acts

-- options, servers and the numbers of links have no part in what always holds
pub kept_aside : (link : ℕ) (state : State) (options : OptionsValue) (servers : List ServerSeat) (used : ℕ) → IsStateKept link state
    → IsStateKept link (record state { options = options; servers = servers; used = used })
kept_aside link state options servers used kept = record { most = kept.most; world = kept.world; once = kept.once; shown = kept.shown; told = kept.told; texts = kept.texts; rows = kept.rows; news = kept.news; there = kept.there; first = kept.first }

module _ (which : HeldPart) (limit : Option ℕ) (link : ℕ) (id : List ℕ) (free : BeginsWithout 95 id) where
  abbrev Kept : State → Type 0
  Kept state = IsStateKept link state

  abbrev Does : State → Stepped → Type 0
  Does state stepped = Tells which limit link id state stepped

  -- nor in what is held
  Tells-beside : (way : List Stage) (state : State) (options : OptionsValue) (servers : List ServerSeat) (used : ℕ) (acts : List Act) → messages_to link acts ≡ [] → Kept state
      → News state (record { state = record state { options = options; servers = servers; used = used }; acts = acts; way = way })
      → Does state (record { state = record state { options = options; servers = servers; used = used }; acts = acts; way = way })
  Tells-beside way state options servers used acts none kept news =
      let next : State = record state { options = options; servers = servers; used = used } in
      record {
        following = refl;
        kept = kept_aside link state options servers used kept;
        plain = λ plain. plain;
        counts = counts_same state.world;
        spelt = subst AllSpelt (sym none) tt;
        news = news;
        right = λ follows plain stays part had. subst (λ messages. Has which (fold_all which limit id part messages) next) (sym none) had;
      }

  pub Tells-aside : (state : State) (options : OptionsValue) (servers : List ServerSeat) (used : ℕ) (acts : List Act) → messages_to link acts ≡ [] → Kept state
      → Does state (reach_step (record state { options = options; servers = servers; used = used }) acts)
  Tells-aside state options servers used acts none kept = Tells-beside (reach_step (record state { options = options; servers = servers; used = used }) acts).way state options servers used acts none kept (news_put state (record state { options = options; servers = servers; used = used }) acts refl refl)

  -- what is done from another state that differs in these alone, which is come through
  pub Tells-put : (state : State) (options : OptionsValue) (servers : List ServerSeat) (used : ℕ) (others : State → Stepped) → Does (record state { options = options; servers = servers; used = used }) (others (record state { options = options; servers = servers; used = used }))
      → Does state (then_does (put_step (record state { options = options; servers = servers; used = used })) others)
  Tells-put state options servers used others tells = record {
    following = tells.following;
    kept = tells.kept;
    plain = λ plain. tells.plain plain;
    counts = tells.counts;
    spelt = tells.spelt;
    news = news_then state (put_step (record state { options = options; servers = servers; used = used })) others (news_put state (record state { options = options; servers = servers; used = used }) [] refl refl) tells.news;
    right = λ follows plain stays part had. tells.right follows plain stays part had;
  }

  -- ---- acts, one by one

  pub Tells-says : (state : State) (text : List ℕ) → Kept state → Does state (say_step state text)
  Tells-says state text kept = by (is_utf8 text) where
    by : (b : Bool) → Does state (cond b (refusal_step state text) (no_step state))
    by true = Tells-tells which limit link id state text free kept
    by false = Tells-stays which limit link id state kept

  pub Tells-tries : (tells : Bool) (state : State) (change : Change) → Kept state → IsMild change.what → Does state (try_step tells state change)
  Tells-tries tells state change kept mild = by (is_change_text change.what) refl where
    makes : IsAsked change.what → (o : Option ChangeRefused) → refused state change ≡ o → Does state (change_step_if state change o)
    makes told None good = Tells-changes which limit link id state change free kept told good
    makes told (Some reason) good = Tells-stays which limit link id state kept

    says : IsAsked change.what → (o : Option ChangeRefused) → refused state change ≡ o → Does state (told_step_if state change o)
    says told None good = Tells-changes which limit link id state change free kept told good
    says told (Some reason) good = Tells-says state (refusal_text reason) kept

    tried : (b : Bool) → IsAsked change.what → Does state (cond b (told_step_if state change (refused state change)) (change_step_if state change (refused state change)))
    tried true told = says told (refused state change) refl
    tried false told = makes told (refused state change) refl

    by : (b : Bool) → is_change_text change.what ≡ b
        → Does state (cond b (cond tells (told_step_if state change (refused state change)) (change_step_if state change (refused state change))) (no_step state))
    by true text = tried tells (mild_told change.what text mild)
    by false text = Tells-stays which limit link id state kept

  Tells-on : (tells : Bool) (state : State) (w : What) (o : Option Handle) → Kept state → IsMild w → Does state (on_step tells state w o)
  Tells-on tells state w None kept mild = Tells-stays which limit link id state kept
  Tells-on tells state w (Some buffer) kept mild = Tells-tries tells state (change_of buffer (dated state.moment w)) kept (mild_dated state.moment w mild)

  Tells-sends : (state : State) (k : ℕ) (line : List ℕ) (o : Option ServerSeat) → Kept state → Does state (send_step state k line o)
  Tells-sends state k line None kept = Tells-stays which limit link id state kept
  Tells-sends state k line (Some seat) kept = Tells-aside state state.options state.servers state.used (Serves (SendsLine k (ended line)) ∷ []) refl kept

  Tells-act : (tells : Bool) (k : ℕ) (state : State) (a : ServerAct) → Kept state → IsMildAct a → Does state (act_step tells k state a)
  Tells-act tells k state (act.Open spec) kept mild = Tells-tries tells state (change_of null (what.Add spec)) kept tt
  Tells-act tells k state (act.On full_name w) kept mild = Tells-on tells state w (handle_of_name full_name state.world.groups) kept mild
  Tells-act tells k state (act.Send line) kept mild = Tells-sends state k line (at_key server_link k state.servers) kept
  Tells-act tells k state (act.Raise signal payload) kept mild = Tells-stays which limit link id state kept
  Tells-act tells k state (act.Leave why) kept mild = Tells-stays which limit link id state kept

  pub Tells-acts : (tells : Bool) (k : ℕ) (state : State) (acts : List ServerAct) → Kept state → AreMild acts → Does state (acts_step tells k state acts)
  Tells-acts tells k state [] kept mild = Tells-stays which limit link id state kept
  Tells-acts tells k state (a ∷ acts) kept mild =
      let first = Tells-act tells k state a kept mild.0 in
      Tells-then which limit link id state (act_step tells k state a) (λ next. acts_step tells k next acts) first (Tells-acts tells k (act_step tells k state a).state acts first.kept mild.1)

  -- ---- a loss

  Tells-leaves : (state : State) (k : ℕ) (why : Cause) → Kept state → Does state (leave_server k why state)
  Tells-leaves state k why kept = Tells-aside state state.options (without server_link k state.servers) state.used (Serves (Parts k why) ∷ []) refl kept

  pub Tells-loss : (k : ℕ) (why : Cause) (state : State) (o : Option ServerSeat) → Kept state → Does state (server_loss_step k why state o)
  Tells-loss k why state None kept = Tells-stays which limit link id state kept
  Tells-loss k why state (Some seat) kept =
      let acts = loss_acts state.world.groups seat.server in
      let first = Tells-leaves state k why kept in
      Tells-then which limit link id state (leave_server k why state) (λ next. acts_step false k next acts) first (Tells-acts false k (leave_server k why state).state acts first.kept (mild_loss state.world.groups seat.server))

  Tells-loses : (k : ℕ) (state : State) (o : Option Cause) → Kept state → Does state (loss_step_if k state o)
  Tells-loses k state None kept = Tells-stays which limit link id state kept
  Tells-loses k state (Some why) kept = Tells-loss k why state (at_key server_link k state.servers) kept

  pub Tells-server : (tells : Bool) (k : ℕ) (state : State) (acts : List ServerAct) → Kept state → AreMild acts → Does state (server_acts_step tells k state acts)
  Tells-server tells k state acts kept mild =
      let first = Tells-acts tells k state acts kept mild in
      Tells-then which limit link id state (acts_step tells k state acts) (λ next. loss_step_if k next (leave_in acts)) first (Tells-loses k (acts_step tells k state acts).state (leave_in acts) first.kept)

  -- ---- lines, and a link that stands

  -- the server of a link is another one first
  Tells-known : (k : ℕ) (state : State) (server : ServerState) (acts : List ServerAct) → Kept state → AreMild acts → Does state (then_does (put_step (with_server state k server)) (λ next. server_acts_step false k next acts))
  Tells-known k state server acts kept mild =
      let servers = (with_server state k server).servers in
      Tells-put state state.options servers state.used (λ next. server_acts_step false k next acts)
      (Tells-server false k (with_server state k server) acts (kept_aside link state state.options servers state.used kept) mild)

  pub Tells-line : (state : State) (k : ℕ) (line : List ℕ) (o : Option ServerSeat) → Kept state → Does state (server_line_step state k line o)
  Tells-line state k line None kept = Tells-stays which limit link id state kept
  Tells-line state k line (Some seat) kept = by (reading_of (lossy_of line)) where
    by : (read : Result Message LineRefused) → Does state (message_step state k seat.server read)
    by (Err refused) = Tells-stays which limit link id state kept
    by (Ok m) = Tells-known k state (after_server seat.server m) (acts_of_server state.world.groups seat.server m) kept (mild_message state.world.groups seat.server m)

  pub Tells-stands : (state : State) (k : ℕ) (o : Option ServerSeat) → Kept state → Does state (stands_step state k o)
  Tells-stands state k None kept = Tells-stays which limit link id state kept
  Tells-stands state k (Some seat) kept = Tells-known k state (after_connect seat.server) (first_acts seat.server) kept (mild_first seat.server)

  -- ---- before a buffer is closed, and before the run ends

  Tells-parts : (state : State) (buffer : Handle) (o : Option ServerSeat) → Kept state → Does state (parting_step state buffer o)
  Tells-parts state buffer None kept = Tells-stays which limit link id state kept
  Tells-parts state buffer (Some seat) kept = Tells-acts false seat.link state (close_acts state.world.groups seat.server buffer) kept (mild_close state.world.groups seat.server buffer)

  pub Tells-before : (state : State) (change : Change) → Kept state → Does state (before_step state change)
  Tells-before state change kept = by (is_close change.what) where
    by : (b : Bool) → Does state (cond b (parting_step state change.buffer (server_of state change.buffer)) (no_step state))
    by true = Tells-parts state change.buffer (server_of state change.buffer) kept
    by false = Tells-stays which limit link id state kept

  -- servers are told one after another, and nothing else becomes of the state
  quits_same : (state : State) (outs : List Out) (seats : List ServerSeat) (pairs : List HotPair) → Means state.hotlist pairs → AreStages state.world pairs (quit_way state outs seats) state.world pairs
  quits_same state outs [] pairs means = (refl, refl)
  quits_same state outs (seat ∷ seats) pairs means = record { next = pairs; means = means; comes = inr (record { world = refl; left = inl refl }); onward = quits_same state (outs ++ quit_outs seat) seats pairs means }

  pub Tells-quits : (state : State) → Kept state → Does state (quit_step state)
  Tells-quits state kept =
      let outs = flat_map quit_outs state.servers in
      Tells-beside (quit_way state [] state.servers) state state.options state.servers state.used (map Serves outs ++ Quits ∷ []) (serves_none link outs (Quits ∷ [])) kept
      (λ pairs means. record { final = pairs; means = means; stages = quits_same state [] state.servers pairs means })
